use Rattle.std.proofs.Common.{◌≡◌, Option, true, subst}
use Rattle.std.specs.Option.{IfSome}
use Rattle.class_record.specs.Files.{Name}
use Rattle.class_record.specs.Facts.{names_of}
use Rattle.class_record.specs.Loading.{is_among}
use Rattle.loaded_cases.proofs.test_classes.is_loaded.Goals as goal

pub returns-in-Some : goal.returns-in-Some
returns-in-Some c = λ t. subst (λ (o : Option Name). IfSome o (λ (name : Name). is_among name (names_of c.args.classes.now.classes) ≡ true)) c.in-Some.ensures (c.is_named.ensures t)
