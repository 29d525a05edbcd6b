use Rattle.std.proofs.Common.{◌≡◌, ℕ, List, Some, Result, Err, subst, ap, ◌∙◌}
use Rattle.std.specs.Cmp.{nat_cmp_total}
use Rattle.std.specs.FinMap.{empty, get-insert}
use Rattle.jsa_files.specs.declared.fault.FilesFault.TheVariants as files
use Rattle.jsa_files.specs.Plans.{Plan, no_plan, with_failure, due, counted, FailsWhereDue}
use Rattle.jsa_files.specs.Store.{ReadAnswer}
use Rattle.jsa_files.specs.Memory.{StoreState, faults_after, after_read}
use Rattle.files_cases.proofs.count_tests.after_a_planned_failure.Goals as goal

first_due : due (with_failure no_plan 1 0) ≡ Some 0
first_due = get-insert nat_cmp_total empty 1 0 1

abbrev planned : StoreState → StoreState
planned made = record { contents = made.contents; reads = made.reads; read_faults = made.read_faults; write_faults = made.write_faults; plan = with_failure made.plan 1 0 }

one_fault : (made old new : StoreState) (path : List ℕ) (r : ReadAnswer) → made.read_faults ≡ 0 → made.plan ≡ no_plan → old ≡ planned made → FailsWhereDue (due old.plan) r → new ≡ after_read old path r → new.read_faults ≡ 1
one_fault made old new path r zero fresh is fails after =
    let failed : r ≡ Err files.Failed = subst (λ o. FailsWhereDue o r) (ap (λ (s : StoreState). due s.plan) is ∙ ap (λ (p : Plan). due (with_failure p 1 0)) fresh ∙ first_due) fails in
    ap (λ (s : StoreState). s.read_faults) after
    ∙ ap (λ (a : ReadAnswer). faults_after old.read_faults a) failed
    ∙ ap counted (ap (λ (s : StoreState). s.read_faults) is ∙ zero)

pub returns : goal.returns
returns c = one_fault c.new-files.result c.fail.new.self c.read-failed.new.self _ c.read-failed.result c.new-files.ensures.read_faults c.new-files.ensures.plan c.in_ok-fail.ensures.ok c.read-failed.ensures.planned c.read-failed.ensures.after
