-- The status of each end.
use Rattle.std.specs.Prelude.{ℕ}
use Rattle.jsa.specs.declared.ended.Ended as ended_type
use Rattle.jsa.specs.declared.ended.Ended.TheVariants.{Exit, Usage, BadText, NoBoot, NoMain, Missing, NotShared, Stopped, Unsupported, ReadFault, WriteFault, Limit, Memory}

abbrev pub status_of : ended_type.Ended → ℕ
status_of (Exit code) = code
status_of Usage = 2
status_of (BadText number) = 7
status_of NoBoot = 3
status_of NoMain = 4
status_of Missing = 5
status_of (NotShared refuse) = 6
status_of Stopped = 8
status_of Unsupported = 9
status_of ReadFault = 11
status_of WriteFault = 12
status_of (Limit quantity limit) = 13
status_of Memory = 14
