use Rattle.class_record.specs.Records.{facts_of}
use Rattle.std.proofs.Common.{refl}
use Rattle.loaded_classes.proofs.classes.LoadedClassesClasses.sizes.Goals as goal

pub returns : goal.returns
unfolding facts_of
returns c = rw (c.class-class.ensures.is, c.class-class.ensures.held.instance_size, c.class-class.ensures.held.static_size) refl
