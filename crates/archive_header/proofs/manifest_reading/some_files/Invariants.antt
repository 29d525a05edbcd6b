use Rattle.std.proofs.Common.{◌≡◌, ◌-◌}
use Rattle.jsa_base.specs.Reading.{times}
use Rattle.archive_header.specs.ManifestBytes.{file_at}
use Rattle.jsa_base.proofs.Loops.{with_front}
use Rattle.archive_header.proofs.manifest_reading.some_files.Given as goal

abbrev pub invariant-loop : goal.invariant-loop
invariant-loop l = with_front l.files (times file_at (l.count - l.counter) l.cursor) ≡ times file_at l.count l.fn.cursor
