use Rattle.std.proofs.Common.{drop}
use Rattle.verify_rules.specs.Asking.{each}
use Rattle.verify_rules.specs.Flow.{handled}
use Rattle.type_verifier.proofs.Asked.{Leads}
use Rattle.type_verifier.proofs.flow.all_handled.Given as goal

abbrev pub invariant-loop-h : goal.invariant-loop-h
invariant-loop-h l = Leads (each (handled l.e l.declared l.place l.f) l.handlers) (each (handled l.e l.declared l.place l.f) (drop l.h-index l.handlers)) l.fn.asks l.asks
