use Rattle.std.proofs.Common.{◌≡◌, None, sym, ap, ◌∙◌}
use Rattle.jsa_names.specs.Texts.{unit_at, units_of}
use Rattle.jsa_names.proofs.Forms.{goes, behind, behind_before, ended}
use Rattle.jsa_names.proofs.texts.utf16.Goals as goal

pub loop-unit-preserved : goal.loop-unit-preserved
loop-unit-preserved c =
    let step = goes c.loop-unit.rest.now c.in-Some.unit c.in-Some.after.now (sym c.in-Some.ensures) in
    rw c.in_ok-push.ensures.items (sym (behind_before c.loop-unit.units.items c.in-Some.unit (units_of c.in-Some.after.now)) ∙ ap (behind c.loop-unit.units.items) (sym step) ∙ c.loop-unit.invariant)

pub returns : goal.returns
returns c =
    let none : unit_at c.loop-unit.rest.now ≡ None = sym (rw c.in_default.is at c.first_unit.ensures) in
    ended c.loop-unit.rest.now c.args.bytes.now c.loop-unit.units.items none c.requires c.loop-unit.invariant
