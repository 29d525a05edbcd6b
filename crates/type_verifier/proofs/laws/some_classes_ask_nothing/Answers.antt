use Rattle.type_verifier.proofs.InOrder.{final_faults_ask_nothing, codeless_are_sound}
use Rattle.type_verifier.proofs.laws.some_classes_ask_nothing.Goals as goal

pub returns-clause-faulty : goal.returns-clause-faulty
returns-clause-faulty c = final_faults_ask_nothing

pub returns-clause-sound : goal.returns-clause-sound
returns-clause-sound c = codeless_are_sound
