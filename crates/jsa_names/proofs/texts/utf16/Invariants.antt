use Rattle.std.proofs.Common.{◌≡◌, length}
use Rattle.jsa_names.specs.Texts.{units_of}
use Rattle.jsa_names.proofs.Forms.{behind}
use Rattle.jsa_names.proofs.texts.utf16.Given as goal

abbrev pub invariant-loop-unit : goal.invariant-loop-unit
invariant-loop-unit l = behind l.units.items (units_of l.rest) ≡ units_of l.bytes

abbrev pub decreases-loop-unit : goal.decreases-loop-unit
decreases-loop-unit l = length l.rest
