use Rattle.class_record.specs.Facts.{names_of}
use Rattle.loaded_classes.proofs.Names.{among_at}
use Rattle.loaded_cases.proofs.test_classes.is_named.Goals as goal

pub returns-in-Some : goal.returns-in-Some
returns-in-Some c = λ t. among_at (names_of c.args.classes.now.classes) c.args.name.now c.in-Some.field-0.0 c.in-Some.ensures
