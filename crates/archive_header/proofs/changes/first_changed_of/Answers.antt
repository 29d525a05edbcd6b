use Rattle.std.proofs.Common.{◌≡◌, sym, ◌∙◌, arith, Some, None}
use Rattle.archive_header.specs.Changes.{first_other}
use Rattle.archive_header.proofs.FirstChanged.{boot_changed, platform_changed, none_changed, app_changed, other_within}
use Rattle.archive_header.proofs.changes.first_changed_of.Goals as goal

pub returns-then-not-is_same_option : goal.returns-then-not-is_same_option
returns-then-not-is_same_option c = boot_changed c.args.kept.now c.args.now.now (sym c.is_same_option.ensures ∙ c.if-not-is_same_option.true)

pub returns-then-not-is_same_option-2 : goal.returns-then-not-is_same_option-2
returns-then-not-is_same_option-2 c = platform_changed c.args.kept.now c.args.now.now (sym c.is_same_option.ensures ∙ c.if-not-is_same_option.false) (sym c.is_same_option-2.ensures ∙ c.if-not-is_same_option-2.true)

pub overflow_cast-result : goal.overflow_cast-result
overflow_cast-result c =
    let e : first_other c.as_slice.result.now c.as_slice-2.result.now ≡ Some c.in-Some.place = sym c.first_other.ensures ∙ c.in-Some.is in
    let b = other_within c.args.kept.now.app c.args.now.now.app c.in-Some.place (rw (sym c.as_slice.ensures, sym c.as_slice-2.ensures) e) in
    omega (arith, b, c.requires)

pub overflow_add-result : goal.overflow_add-result
overflow_add-result c =
    let e : first_other c.as_slice.result.now c.as_slice-2.result.now ≡ Some c.in-Some.place = sym c.first_other.ensures ∙ c.in-Some.is in
    let b = other_within c.args.kept.now.app c.args.now.now.app c.in-Some.place (rw (sym c.as_slice.ensures, sym c.as_slice-2.ensures) e) in
    omega (arith, b, c.requires)

pub returns-in-Some : goal.returns-in-Some
returns-in-Some c =
    let e : first_other c.as_slice.result.now c.as_slice-2.result.now ≡ Some c.in-Some.place = sym c.first_other.ensures ∙ c.in-Some.is in
    app_changed c.args.kept.now c.args.now.now c.in-Some.place (sym c.is_same_option.ensures ∙ c.if-not-is_same_option.false) (sym c.is_same_option-2.ensures ∙ c.if-not-is_same_option-2.false) (rw (sym c.as_slice.ensures, sym c.as_slice-2.ensures) e)

pub returns-in-None : goal.returns-in-None
returns-in-None c =
    let e : first_other c.as_slice.result.now c.as_slice-2.result.now ≡ None = sym c.first_other.ensures ∙ c.in-None.is in
    none_changed c.args.kept.now c.args.now.now (sym c.is_same_option.ensures ∙ c.if-not-is_same_option.false) (sym c.is_same_option-2.ensures ∙ c.if-not-is_same_option-2.false) (rw (sym c.as_slice.ensures, sym c.as_slice-2.ensures) e)
