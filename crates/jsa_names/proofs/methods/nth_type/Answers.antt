use Rattle.std.proofs.Common.{◌≡◌, None, sym, ◌∙◌, ◌-◌}
use Rattle.jsa_names.specs.Types.{type_at, field_shown}
use Rattle.jsa_names.proofs.Runs.{get_goes, get_stops, get_here}
use Rattle.jsa_names.proofs.methods.nth_type.Goals as goal

pub returns-in_default : goal.returns-in_default
returns-in_default c =
    let none : type_at c.loop.rest.now ≡ None = sym (rw c.in_default.is at c.first_type.ensures) in
    sym (get_stops c.loop.rest.now (c.args.k - c.loop.counter) none) ∙ c.loop.invariant

pub loop-preserved : goal.loop-preserved
loop-preserved c =
    sym (get_goes c.loop.rest.now (field_shown c.in-Some.field-0-0) c.in-Some.after.now c.args.k c.loop.counter c.loop-test.true (sym c.in-Some.ensures)) ∙ c.loop.invariant

pub returns-in_default-first_type : goal.returns-in_default-first_type
returns-in_default-first_type c =
    let none : type_at c.loop.rest.now ≡ None = sym (rw c.in_default-first_type.is at c.first_type-2.ensures) in
    sym (get_stops c.loop.rest.now (c.args.k - c.loop.counter) none) ∙ c.loop.invariant

pub returns : goal.returns
returns c =
    sym (get_here c.loop.rest.now (field_shown c.in-Some-first_type.found) c.in-Some-first_type.field-0-1.now c.args.k c.loop.counter c.loop-test.false (sym c.in-Some-first_type.ensures)) ∙ c.loop.invariant
