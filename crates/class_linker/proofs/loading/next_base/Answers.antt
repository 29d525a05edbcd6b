use Rattle.std.proofs.Common.{◌≡◌, List, Some, None, slice_get, refl, sym, ap, ◌∙◌}
use Rattle.class_record.specs.declared.bases.Base.{Base}
use Rattle.class_linker.proofs.BasesLeft.{next_none, next_some}
use Rattle.class_linker.proofs.loading.next_base.Goals as goal

pub returns-in-None : goal.returns-in-None
returns-in-None c =
    let none : slice_get c.in-Some.top.now.bases c.in-Some.top.now.done ≡ None =
    ap (λ (bases : List Base). slice_get bases c.in-Some.top.now.done) (sym c.as_slice.ensures) ∙ sym c.in-None.ensures in
    next_none c.args.path.now c.in-Some.top c.in-Some.ensures.top none

pub returns-in_ok-from_slice-in-Some-at : goal.returns-in_ok-from_slice-in-Some-at
returns-in_ok-from_slice-in-Some-at c =
    let some : slice_get c.in-Some.top.now.bases c.in-Some.top.now.done ≡ Some c.in-Some-at.base.now =
    ap (λ (bases : List Base). slice_get bases c.in-Some.top.now.done) (sym c.as_slice.ensures) ∙ sym c.in-Some-at.ensures in
    next_some c.args.path.now c.in-Some.top c.in-Some-at.base.now (record { name = c.in_ok-from_slice-in-Some-at.field-0; loader = c.in-Some.top.now.loader }) c.in-Some.ensures.top some
    (c.in_ok-from_slice-in-Some-at.ensures ∙ c.as_slice-in-Some-at.ensures) refl
