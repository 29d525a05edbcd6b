use Rattle.std.proofs.Common.{ap, inr}
use Rattle.jsa_files.specs.Told.{contents_told, reads_told}
use Rattle.command_words.specs.Requests.{run_view, is_on_share}
use Rattle.jsa.proofs.Archives.{from_file}
use Rattle.jsa.proofs.archive_run.run_refused.Goals as goal

pub returns-in-Auto-clause-answer : goal.returns-in-Auto-clause-answer
returns-in-Auto-clause-answer g c = λ bytes now refused.
    let store = g.F.Files.store c.args.files.now in
    from_file (contents_told store) (reads_told store) (reads_told (g.F.Files.store c.run_path.new.files)) (run_view c.args.request.now) bytes now (g.O.Sink.taken c.args.out.now) (g.O.Sink.taken c.run_path.new.out) c.run_path.result
    (inr (record { refuse = c.args.refuse; refused = refused; auto = ap is_on_share c.in-Auto.is })) c.run_path.ensures.answer c.run_path.ensures.reads
