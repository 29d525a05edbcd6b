use Rattle.std.proofs.Common.{◌≡◌, ◌∙◌, sym, subst, ap, List, ℕ, Bool}
use Rattle.std.specs.Str.{bytes_eq}
use Rattle.first_form.specs.FirstForm.{IsOther}
use Rattle.plain_classes.specs.Outcomes.{Tells}
use Rattle.plain_classes.specs.Records.{IsNamed}
use Rattle.plain_classes.proofs.Named.{named_is, other_is}
use Rattle.plain_classes.proofs.names.is_named.Goals as goal

pub returns-in-Ok : goal.returns-in-Ok
returns-in-Ok c =
    let e : c.eq.result ≡ bytes_eq c.in-Ok.inside c.args.name.now = c.eq.ensures ∙ ap (λ (b : List ℕ). bytes_eq b c.args.name.now) c.as_slice.ensures in
    subst (λ (b : Bool). Tells b (IsNamed c.args.bytes.now c.args.name.now)) (sym e) (named_is c.args.bytes.now c.in-Ok.inside c.args.name.now c.in-Ok.ensures)

pub returns-in-Err-NotFirstForm : goal.returns-in-Err-NotFirstForm
returns-in-Err-NotFirstForm c =
    let other : IsOther c.args.bytes.now = rw c.in-Err-NotFirstForm.field-0-is at c.in-Err-NotFirstForm.ensures in
    other_is c.args.bytes.now c.args.name.now other
