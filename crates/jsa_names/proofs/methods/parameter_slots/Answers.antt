use Rattle.std.proofs.Common.{◌≡◌, Some, None, length, sym, ap, ◌∙◌, arith, ℕ, List}
use Rattle.jsa_names.specs.Types.{JavaType, field_shown, type_at, types_at, front_types, slots_of}
use Rattle.jsa_names.proofs.Runs.{goes, stops, shorter, slots_go, slots_stop, too_many, few}
use Rattle.jsa_names.proofs.methods.parameter_slots.Goals as goal

pub returns-then-slots-gt255 : goal.returns-then-slots-gt255
returns-then-slots-gt255 c =
    let more = slots_go c.loop-first.rest.now (field_shown c.in-Some.first) c.in-Some.after.now (sym c.in-Some.ensures) in
    too_many c.args.bytes.now (omega (arith, more, c.loop-first.invariant.0, c.slots_of_type-slots.ensures, c.if-slots-gt255.true))

pub loop-first-smaller : goal.loop-first-smaller
loop-first-smaller c = shorter c.loop-first.rest.now (field_shown c.in-Some.first) c.in-Some.after.now (sym c.in-Some.ensures)

pub loop-first-preserved : goal.loop-first-preserved
loop-first-preserved c =
    let h = sym c.in-Some.ensures in
    let more = slots_go c.loop-first.rest.now (field_shown c.in-Some.first) c.in-Some.after.now h in (
      omega (arith, more, c.loop-first.invariant.0, c.slots_of_type-slots.ensures),
      sym (ap (λ (r : List JavaType × List ℕ). r.1) (goes c.loop-first.rest.now (field_shown c.in-Some.first) c.in-Some.after.now h)) ∙ c.loop-first.invariant.1,
      omega arith,
    )

pub returns : goal.returns
returns c =
    let none : type_at c.loop-first.rest.now ≡ None = sym (rw c.in_default.is at c.first_type.ensures) in
    let behind : (types_at (length c.loop-first.rest.now) c.loop-first.rest.now).1 ≡ c.loop-first.rest.now = ap (λ (r : List JavaType × List ℕ). r.1) (stops c.loop-first.rest.now none) in
    let all : c.loop-first.slots ≡ slots_of (front_types c.args.bytes.now) = omega (arith, slots_stop c.loop-first.rest.now none, c.loop-first.invariant.0) in (
      few c.args.bytes.now (omega (arith, all, c.loop-first.invariant.2)) ∙ ap (λ (r : List ℕ). Some (front_types c.args.bytes.now, r)) (sym c.loop-first.invariant.1 ∙ behind),
      all,
      c.loop-first.invariant.2,
    )
