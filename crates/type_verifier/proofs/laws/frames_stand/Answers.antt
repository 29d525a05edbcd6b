use Rattle.type_verifier.proofs.InOrder.{declared_stand, jumps_followed, code_goes_on}
use Rattle.type_verifier.proofs.laws.frames_stand.Goals as goal

pub returns-clause-declared : goal.returns-clause-declared
returns-clause-declared c = declared_stand

pub returns-clause-jumps : goal.returns-clause-jumps
returns-clause-jumps c = jumps_followed

pub returns-clause-within : goal.returns-clause-within
returns-clause-within c = code_goes_on
