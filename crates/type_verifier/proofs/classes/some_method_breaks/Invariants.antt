use Rattle.std.proofs.Common.{◌≡◌, drop}
use Rattle.std.specs.List.{list_any}
use Rattle.verify_rules.specs.Classes.{breaks_final_method}
use Rattle.type_verifier.proofs.classes.some_method_breaks.Given as goal

abbrev pub invariant-loop-m : goal.invariant-loop-m
invariant-loop-m l = list_any (breaks_final_method l.tree l.loader l.supers) (drop l.m-index l.methods) ≡ list_any (breaks_final_method l.tree l.loader l.supers) l.methods
