use Rattle.std.proofs.Common.{◌≡◌, ◌-◌}
use Rattle.jsa_base.specs.Reading.{times}
use Rattle.archive_header.specs.ManifestBytes.{folder_at}
use Rattle.jsa_base.proofs.Loops.{with_front}
use Rattle.archive_header.proofs.manifest_reading.some_folders.Given as goal

abbrev pub invariant-loop : goal.invariant-loop
invariant-loop l = with_front l.folders (times folder_at (l.count - l.counter) l.cursor) ≡ times folder_at l.count l.fn.cursor
