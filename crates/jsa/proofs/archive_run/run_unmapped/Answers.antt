use Rattle.std.proofs.Common.{inl, refl}
use Rattle.jsa_files.specs.Told.{reads_told}
use Rattle.jsa.proofs.Growth.{reads_nothing}
use Rattle.jsa.proofs.archive_run.run_unmapped.Goals as goal

pub returns-in-Memory-clause-answer : goal.returns-in-Memory-clause-answer
returns-in-Memory-clause-answer g c = λ bytes now maps.
    inl (reads_nothing (reads_told (g.F.Files.store c.args.files.now)) (reads_told (g.F.Files.store c.args.files.now)) refl, refl)

pub returns-in_default-clause-answer : goal.returns-in_default-clause-answer
returns-in_default-clause-answer g c = λ bytes now maps.
    c.run_refused.ensures.answer bytes now (record { why = maps; known = c.in_default.not-Memory })
