use Rattle.std.proofs.Common.{drop}
use Rattle.verify_rules.specs.Classes.{methods_checked}
use Rattle.type_verifier.proofs.Progress.{Checking}
use Rattle.type_verifier.proofs.classes.methods_checked.Given as goal

abbrev pub invariant-loop-k : goal.invariant-loop-k
invariant-loop-k l = Checking (methods_checked l.tree l.loader l.supers 0 l.methods) (methods_checked l.tree l.loader l.supers l.k (drop l.k l.methods)) l.asks
