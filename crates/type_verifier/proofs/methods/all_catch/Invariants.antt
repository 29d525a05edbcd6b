use Rattle.std.proofs.Common.{drop}
use Rattle.verify_rules.specs.Asking.{each}
use Rattle.verify_rules.specs.Methods.{catch_test}
use Rattle.type_verifier.proofs.Asked.{Leads}
use Rattle.type_verifier.proofs.methods.all_catch.Given as goal

abbrev pub invariant-loop-h : goal.invariant-loop-h
invariant-loop-h l = Leads (each (catch_test l.pool) l.handlers) (each (catch_test l.pool) (drop l.h-index l.handlers)) l.fn.asks l.asks
