use Rattle.std.proofs.Common.{ℕ, ◌+◌, ◌<◌, ◌≤◌, ◌^◌, length, true, false, sym, ap, ◌∙◌, arith}
use Rattle.class_record.specs.Facts.{interfaces_at}
use Rattle.vm_start.proofs.Bounds.{has_few}
use Rattle.vm_start.proofs.Searches.{same_at, same_end, same_within}
use Rattle.vm_start.proofs.asked.has_interfaces.Goals as goal

pub returns-then-not-is_interface_named : goal.returns-then-not-is_interface_named
returns-then-not-is_interface_named g c =
    sym (same_at (λ s. s.now) (interfaces_at (g.C.Classes.classes c.args.classes.now) c.args.id.0) c.loop-name.k c.loop-name.name-index c.args.names.now _ false
    c.loop-name.invariant.place c.loop-name-test.true (rw c.if-not-is_interface_named.true at c.is_interface_named.ensures))
    ∙ c.loop-name.invariant.left

pub overflow_add-k : goal.overflow_add-k
overflow_add-k g c =
    let few : length (interfaces_at (g.C.Classes.classes c.args.classes.now) c.args.id.0) < 2 ^ 16 = (has_few (g.C.Classes.classes c.args.classes.now) c.args.id.0 c.count-count.ensures.built).interfaces in
    let within : c.loop-name.k ≤ length (interfaces_at (g.C.Classes.classes c.args.classes.now) c.args.id.0) = c.loop-name.invariant.within in
    omega arith

pub loop-name-preserved : goal.loop-name-preserved
loop-name-preserved g c =
    let known = rw c.if-not-is_interface_named.false at c.is_interface_named.ensures in
    let within : c.loop-name.k < length (interfaces_at (g.C.Classes.classes c.args.classes.now) c.args.id.0) = same_within (interfaces_at (g.C.Classes.classes c.args.classes.now) c.args.id.0) c.loop-name.k _ known in
    record {
      place = ap (λ (n : ℕ). n + 1) c.loop-name.invariant.place;
      within = omega arith;
      left =
          sym (same_at (λ s. s.now) (interfaces_at (g.C.Classes.classes c.args.classes.now) c.args.id.0) c.loop-name.k c.loop-name.name-index c.args.names.now _ true
          c.loop-name.invariant.place c.loop-name-test.true known)
          ∙ c.loop-name.invariant.left;
    }

pub returns : goal.returns
returns g c =
    c.is_past_interfaces.ensures
    ∙ sym (same_end (λ s. s.now) (interfaces_at (g.C.Classes.classes c.args.classes.now) c.args.id.0) c.loop-name.k c.args.names.now (omega (arith, c.loop-name-test.false, c.loop-name.invariant.place)))
    ∙ c.loop-name.invariant.left
