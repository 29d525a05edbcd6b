use Rattle.type_verifier.proofs.InOrder.{walks_in_order, methods_in_order, classes_in_order}
use Rattle.type_verifier.proofs.laws.questions_are_in_order.Goals as goal

pub returns-clause-walks : goal.returns-clause-walks
returns-clause-walks c = walks_in_order

pub returns-clause-methods : goal.returns-clause-methods
returns-clause-methods c = methods_in_order

pub returns-clause-classes : goal.returns-clause-classes
returns-clause-classes c = classes_in_order
