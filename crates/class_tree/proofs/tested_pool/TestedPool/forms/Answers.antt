use Rattle.std.proofs.Common.{◌≡◌, slice_get, List, Some, None, sym, ap, ◌∙◌}
use Rattle.std.specs.Option.{option_copied}
use Rattle.class_tree.specs.declared.tested_pool.TextForms.{TextForms}
use Rattle.class_tree.specs.TextForms.{all_forms}
use Rattle.class_tree.proofs.Forms.{is_found, is_missing}
use Rattle.class_tree.proofs.tested_pool.TestedPool.forms.Goals as goal

pub returns-in-Some : goal.returns-in-Some
returns-in-Some c =
    let is : c.self.inside.forms.items ≡ all_forms c.args.self.now = c.self.invariant ∙ ap all_forms c.self.view_is in
    let found : slice_get c.self.inside.forms.items c.args.index ≡ Some c.in-Some.forms.now =
    ap (λ (l : List TextForms). slice_get l c.args.index) (sym c.deref.ensures.value) ∙ sym c.at.ensures ∙ ap option_copied c.in-Some.is in
    is_found c.args.self.now c.self.inside.forms.items c.args.index c.in-Some.forms.now is found

pub returns-in-None : goal.returns-in-None
returns-in-None c =
    let is : c.self.inside.forms.items ≡ all_forms c.args.self.now = c.self.invariant ∙ ap all_forms c.self.view_is in
    let missing : slice_get c.self.inside.forms.items c.args.index ≡ None =
    ap (λ (l : List TextForms). slice_get l c.args.index) (sym c.deref.ensures.value) ∙ sym c.at.ensures ∙ ap option_copied c.in-None.is in
    c.no_forms.ensures ∙ is_missing c.args.self.now c.self.inside.forms.items c.args.index is missing
