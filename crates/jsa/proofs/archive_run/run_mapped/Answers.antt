use Rattle.std.proofs.Common.{◌≤◌, sym, subst, Some, length, List, [], ℕ}
use Rattle.std.specs.Prelude.{Result}
use Rattle.archive_header.specs.declared.refuse.Refuse.{Refuse}
use Rattle.jsa_files.specs.declared.TheConstants.{MAX_FILE}
use Rattle.plain_classes.specs.declared.class.PlainClass.{PlainClass}
use Rattle.archive_mapper.specs.Mapping.{Maps}
use Rattle.jsa.specs.Steps.{IsSmallIn}
use Rattle.jsa_files.specs.Told.{contents_told, reads_told}
use Rattle.command_words.specs.Requests.{run_view}
use Rattle.jsa.specs.Archived.{MappedAnswers}
use Rattle.jsa.proofs.Archives.{small_in}
use Rattle.jsa.proofs.archive_run.run_mapped.Goals as goal

pub run_held-requires : goal.run_held-requires
run_held-requires g c =
    let small = subst (λ (b : List ℕ). length b ≤ MAX_FILE) (sym c.as_slice.ensures.value) c.requires in
    subst IsSmallIn (sym c.as_slice-in-Ok.ensures) (small_in c.as_slice.result.now (Some c.args.opened.now.manifest) c.in-Ok.classes c.in-Ok.ensures small)

pub returns-in-Err-clause-answer : goal.returns-in-Err-clause-answer
returns-in-Err-clause-answer g c =
    let store = g.F.Files.store c.args.files.now in
    let maps = subst (λ (r : Result (List PlainClass) Refuse). Maps c.as_slice.result.now (Some c.args.opened.now.manifest) r) c.in-Err.is c.map.ensures in
    subst (λ (b : List ℕ). MappedAnswers (contents_told store) (reads_told store) (reads_told (g.F.Files.store c.run_unmapped.new.files)) [] (run_view c.args.request.now) b c.args.opened.now.manifest (g.O.Sink.taken c.args.out.now) (g.O.Sink.taken c.run_unmapped.new.out) c.run_unmapped.result)
    c.as_slice.ensures.value (c.run_unmapped.ensures.answer c.as_slice.result.now c.args.opened.now.manifest maps)
