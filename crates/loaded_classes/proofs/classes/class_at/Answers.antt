use Rattle.std.proofs.Common.{ℕ, Option, slice_get, subst}
use Rattle.class_record.specs.Facts.{names_of}
use Rattle.loaded_classes.specs.Held.{IsId}
use Rattle.loaded_classes.proofs.Ids.{id_at}
use Rattle.loaded_classes.proofs.classes.class_at.Goals as goal

pub returns : goal.returns
returns c = λ classes of wanted all. c.class_with.ensures classes of (slice_get wanted c.args.k)
    (subst (λ (id : Option ℕ). IsId (names_of classes) of (slice_get wanted c.args.k) id) (cc) (id_at (names_of classes) of wanted c.args.ids.now c.args.k all))
