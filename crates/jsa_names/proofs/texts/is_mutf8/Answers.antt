use Rattle.std.proofs.Common.{◌≡◌, None, is_some, sym, ap, ◌∙◌, eqb, length}
use Rattle.jsa_names.specs.Texts.{unit_at, units_of}
use Rattle.jsa_names.proofs.Forms.{goes, stops, before_some, at_end_some}
use Rattle.jsa_names.proofs.texts.is_mutf8.Goals as goal

pub loop-after-preserved : goal.loop-after-preserved
loop-after-preserved c =
    sym (ap is_some (goes c.loop-after.rest.now c.in-Some.field-0-0 c.in-Some.after.now (sym c.in-Some.ensures)) ∙ before_some c.in-Some.field-0-0 (units_of c.in-Some.after.now)) ∙ c.loop-after.invariant

pub returns : goal.returns
returns c =
    let none : unit_at c.loop-after.rest.now ≡ None = sym (rw c.in_default.is at c.first_unit.ensures) in
    c.is_empty.ensures ∙ sym (at_end_some (eqb (length c.loop-after.rest.now) 0)) ∙ sym (ap is_some (stops c.loop-after.rest.now none)) ∙ c.loop-after.invariant
