use Rattle.class_record.specs.Records.{facts_of}
use Rattle.std.proofs.Common.{refl}
use Rattle.loaded_classes.proofs.classes.LoadedClassesClasses.loader.Goals as goal

pub returns : goal.returns
unfolding facts_of
returns c = rw c.class.ensures.is refl
