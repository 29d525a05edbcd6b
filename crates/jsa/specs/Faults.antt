-- The end of a command in which the store answered a fault.
use Rattle.jsa_base.specs.declared.quantity.Quantity.TheVariants.{FileSize, Names}
use Rattle.jsa_files.specs.declared.TheConstants.{MAX_FILE, MAX_NAMES}
use Rattle.jsa_files.specs.declared.fault.FilesFault.{FilesFault}
use Rattle.jsa_files.specs.declared.fault.FilesFault.TheVariants as faults
use Rattle.jsa.specs.declared.ended.Ended.{Ended}
use Rattle.jsa.specs.declared.ended.Ended.TheVariants.{ReadFault, Limit, Memory}

abbrev pub end_of : FilesFault → Ended
end_of faults.Failed = ReadFault
end_of (faults.TooLarge size) = Limit FileSize MAX_FILE
end_of (faults.TooMany count) = Limit Names MAX_NAMES
end_of faults.Memory = Memory
