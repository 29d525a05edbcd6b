use Rattle.std.proofs.Common.{ℕ, List, slice_get, sym, ap, ◌∙◌}
use Rattle.class_tree.specs.declared.tree.FieldTree.{FieldTree}
use Rattle.loaded_classes.specs.Slots.{with_slot}
use Rattle.loaded_classes.proofs.FactsKnown.{field_known}
use Rattle.loaded_classes.proofs.classes.LoadedClassesClasses.field.Goals as goal

pub returns : goal.returns
returns c =
    c.field_at.ensures
    ∙ ap (λ (slots : List ℕ). with_slot c.class-class.result.now.tree.pool (slice_get slots c.args.k) (slice_get c.as_slice-fields.result.now c.args.k)) c.as_slice.ensures
    ∙ ap (λ (fields : List FieldTree). with_slot c.class-class.result.now.tree.pool (slice_get c.class-class.result.now.slots c.args.k) (slice_get fields c.args.k)) c.as_slice-fields.ensures
    ∙ sym (field_known c.args.self.now.classes c.args.id.0 c.class-class.result.now c.class-class.ensures.is c.args.k c.class-class.ensures.held.slots)
