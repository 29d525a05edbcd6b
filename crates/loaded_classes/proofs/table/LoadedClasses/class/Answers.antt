use Rattle.std.proofs.Common.{◌≡◌, ◌<◌, ℕ, length, Some, subst, sym, refl, slice_get}
use Rattle.std.proofs.lemmas.List.{length-map}
use Rattle.std.proofs.lemmas.Option.{slice_get_read}
use Rattle.loaded_classes.specs.Table.{ClassTable}
use Rattle.loaded_classes.specs.Held.{IsHeld, facts_in}
use Rattle.loaded_classes.proofs.table.LoadedClasses.class.Goals as goal

pub returns-clause-held : goal.returns-clause-held
returns-clause-held c =
    let held = c.self.inside.classes.items in
    let there : c.args.id.0 < length held = subst (λ (n : ℕ). c.args.id.0 < n) (length-map held facts_in) (subst (λ (t : ClassTable). c.args.id.0 < length t.classes) (sym c.self.view_is) c.requires) in
    let is : slice_get held c.args.id.0 ≡ Some c.index.result.now = slice_get_read held (length held) c.args.id.0 c.index.result.now refl there c.index.ensures in
    subst (λ (t : ClassTable). IsHeld t.classes c.args.id.0 c.index.result.now) c.self.view_is (c.self.invariant.right c.args.id.0 c.index.result.now is)
