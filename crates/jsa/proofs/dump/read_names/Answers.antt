use Rattle.std.proofs.Common.{sym, subst, List, ℕ, Some, Err}
use Rattle.jsa_files.specs.Store.{AnswersAsTold}
use Rattle.jsa.specs.declared.ended.Ended.{Ended}
use Rattle.jsa_files.specs.Told.{contents_told, IsAt}
use Rattle.command_words.specs.Requests.{dump_view}
use Rattle.jsa.specs.Steps.{NamesIn, ListsNot}
use Rattle.jsa.proofs.Ends.{at_told}
use Rattle.jsa.proofs.Gathers.{list_in_file, list_fails}
use Rattle.jsa.proofs.dump.read_names.Goals as goal

pub returns-in-Ok-Some-clause-lists : goal.returns-in-Ok-Some-clause-lists
returns-in-Ok-Some-clause-lists g c =
    let store = g.F.Files.store c.args.files.now in
    let told = rw c.in-Ok-Some.field-0-is at c.in-Ok-Some.ensures.answer in
    let small = rw c.in-Ok-Some.field-0-is at c.in-Ok-Some.ensures.size in
    let at = subst (λ (p : List ℕ). IsAt (contents_told store) p (Some c.in-Ok-Some.bytes.items)) c.as_str.ensures.value (at_told store c.as_str.result.now c.in-Ok-Some.bytes told) in
    list_in_file (contents_told store) (dump_view c.args.request.now) c.in-Ok-Some.bytes.items c.names_in.result at small
    (subst (λ (b : List ℕ). NamesIn b c.names_in.result) c.as_slice.ensures.value c.names_in.ensures)

pub returns-in-Err-clause-lists : goal.returns-in-Err-clause-lists
returns-in-Err-clause-lists g c =
    let store = g.F.Files.store c.args.files.now in
    let told = subst (λ (p : List ℕ). AnswersAsTold store p (Err c.in-Err.fault)) c.as_str.ensures.value c.in-Err.ensures.answer in
    subst (λ (e : Ended). ListsNot (contents_told store) (dump_view c.args.request.now) e) (sym c.end_of.ensures) (list_fails store (dump_view c.args.request.now) c.in-Err.fault told c.in-Err.ensures.size)
