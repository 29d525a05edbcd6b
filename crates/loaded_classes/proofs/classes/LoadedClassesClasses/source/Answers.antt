use Rattle.class_record.specs.Records.{facts_of}
use Rattle.std.proofs.Common.{refl}
use Rattle.loaded_classes.proofs.classes.LoadedClassesClasses.source.Goals as goal

pub returns-clause-folder : goal.returns-clause-folder
unfolding facts_of
returns-clause-folder c = rw c.class.ensures.is refl
