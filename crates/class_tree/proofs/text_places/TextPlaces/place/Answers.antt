use Rattle.std.proofs.Common.{◌≡◌, slice_get, List, Option, Some, None, ℕ, sym, ap, ◌∙◌}
use Rattle.std.specs.Option.{option_copied}
use Rattle.class_tree.specs.TextPlaces.{all_places}
use Rattle.class_tree.proofs.Places.{is_found, is_missing}
use Rattle.class_tree.proofs.text_places.TextPlaces.place.Goals as goal

pub returns-in-Some : goal.returns-in-Some
returns-in-Some c =
    let is : c.self.inside.places.items ≡ all_places c.args.self.now = c.self.invariant ∙ ap all_places c.self.view_is in
    let found : slice_get c.self.inside.places.items c.args.index ≡ Some c.in-Some.place.now =
    ap (λ (l : List (Option ℕ)). slice_get l c.args.index) (sym c.deref.ensures.value) ∙ sym c.at.ensures ∙ ap option_copied c.in-Some.is in
    is_found c.args.self.now c.self.inside.places.items c.args.index c.in-Some.place.now is found

pub returns-in-None : goal.returns-in-None
returns-in-None c =
    let is : c.self.inside.places.items ≡ all_places c.args.self.now = c.self.invariant ∙ ap all_places c.self.view_is in
    let missing : slice_get c.self.inside.places.items c.args.index ≡ None =
    ap (λ (l : List (Option ℕ)). slice_get l c.args.index) (sym c.deref.ensures.value) ∙ sym c.at.ensures ∙ ap option_copied c.in-None.is in
    is_missing c.args.self.now c.self.inside.places.items c.args.index is missing
