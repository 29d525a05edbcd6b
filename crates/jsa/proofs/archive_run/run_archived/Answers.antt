use Rattle.std.proofs.Common.{List, ℕ, subst}
use Rattle.std.specs.Prelude.{Ok}
use Rattle.jsa_files.specs.Told.{contents_told, reads_told}
use Rattle.command_words.specs.Requests.{run_view}
use Rattle.jsa.specs.Steps.{OpensAs}
use Rattle.jsa.proofs.Archives.{opened_then}
use Rattle.jsa.proofs.archive_run.run_archived.Goals as goal

pub returns-in-Ok-clause-answer : goal.returns-in-Ok-clause-answer
returns-in-Ok-clause-answer g c =
    let old = g.F.Files.store c.args.files.now in
    let mid = g.F.Files.store c.open.new.files in
    let new = g.F.Files.store c.run_mapped.new.files in
    let r = run_view c.args.request.now in
    let of_archive = subst (λ (a : List ℕ). OpensAs (contents_told old) (reads_told old) (reads_told mid) c.as_str-folder.result.now a (Ok c.in-Ok.opened)) c.as_str-archive.ensures.value c.in-Ok.ensures.opens in
    let of_folder = subst (λ (f : List ℕ). OpensAs (contents_told old) (reads_told old) (reads_told mid) f r.archive (Ok c.in-Ok.opened)) c.as_str-folder.ensures.value of_archive in
    opened_then (contents_told old) (contents_told mid) (reads_told old) (reads_told mid) (reads_told new) r c.in-Ok.opened (g.O.Sink.taken c.args.out.now) (g.O.Sink.taken c.run_mapped.new.out) c.run_mapped.result
    of_folder c.in-Ok.ensures.contents c.run_mapped.ensures.answer
