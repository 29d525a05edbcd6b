-- What is so in the world that is told.
use Rattle.std.proofs.Common.{◌≡◌, Option, Some, None, subst}
use Rattle.jsa_files.specs.Store.{Contents}
use Rattle.loader_rules.specs.Lists.{FolderLists}
use Rattle.class_record.specs.Worlds.{ClassWorld, World, AsTold, AsToldOf}

always_of : (folders : FolderLists) (o : Option Contents) (P : ClassWorld → Type 0) → ((w : ClassWorld) → P w) → AsToldOf folders o P
always_of folders None P f = tt
always_of folders (Some contents) P f = f _

pub told_always : (w : World) (P : ClassWorld → Type 0) → ((c : ClassWorld) → P c) → AsTold w P
told_always w P f = always_of w.folders w.contents P f

one_of : (folders : FolderLists) (o : Option Contents) (P Q : ClassWorld → Type 0) → ((w : ClassWorld) → P w → Q w) → AsToldOf folders o P → AsToldOf folders o Q
one_of folders None P Q f h = tt
one_of folders (Some contents) P Q f h = f _ h

pub told_one : (w : World) (P Q : ClassWorld → Type 0) → ((c : ClassWorld) → P c → Q c) → AsTold w P → AsTold w Q
told_one w P Q f h = one_of w.folders w.contents P Q f h

two_of : (folders : FolderLists) (o : Option Contents) (P Q R : ClassWorld → Type 0) → ((w : ClassWorld) → P w → Q w → R w) → AsToldOf folders o P → AsToldOf folders o Q → AsToldOf folders o R
two_of folders None P Q R f h k = tt
two_of folders (Some contents) P Q R f h k = f _ h k

-- The world never changes, so what is so in it later is so in it at first.
pub told_two : (w v : World) (P Q R : ClassWorld → Type 0) → v ≡ w → ((c : ClassWorld) → P c → Q c → R c) → AsTold w P → AsTold v Q → AsTold w R
told_two w v P Q R e f h k = two_of w.folders w.contents P Q R f h (subst (λ (u : World). AsTold u Q) e k)
