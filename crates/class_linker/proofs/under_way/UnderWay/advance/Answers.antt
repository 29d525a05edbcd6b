use Rattle.std.proofs.Common.{◌≡◌, ◌+◌, ◌-◌, ◌<◌, List, length, refl, sym, ap, subst, ◌∙◌, arith}
use Rattle.std.specs.Vec.{vec_len}
use Rattle.class_linker.specs.declared.under_way.Frame.{Frame}
use Rattle.class_linker.specs.Kept.{advanced}
use Rattle.class_linker.specs.Paths.{HasBaseLeft}
use Rattle.class_linker.proofs.UnderWayTop.{top_advances, names_stay, few_done, none_advances}
use Rattle.class_linker.proofs.under_way.UnderWay.advance.Goals as goal
use Rattle.class_linker.proofs.under_way.UnderWay.advance.Goals.{in-Some, in_default}

pub overflow_add-top : goal.overflow_add-top
overflow_add-top c =
    let fs : List Frame = c.self.inside.frames.items in
    let some : 0 < vec_len c.self.inside.frames = c.in-Some.ensures.variant.0 refl in
    let at : (vec_len c.self.inside.frames - 1) + 1 ≡ length fs = omega (arith, some, c.self.inside.frames.ok.0) in
    omega (arith, few_done fs c.in-Some.top.now (vec_len c.self.inside.frames - 1) at c.in-Some.ensures.value (subst HasBaseLeft (sym c.self.view_is) c.requires))

pub invariant_of-self : goal.invariant_of-self
invariant_of-self c = elim c.match-last_mut.branch [
  | in-Some w ↦ (
      let fs : List Frame = c.self.inside.frames.items in
      let some : 0 < vec_len c.self.inside.frames = w.in-Some.ensures.variant.0 refl in
      let within : vec_len c.self.inside.frames - 1 < length fs = omega (arith, some, c.self.inside.frames.ok.0) in
      rw w.self-inside-is (c.self.invariant ∙ sym (names_stay fs w.in-Some.top.now (vec_len c.self.inside.frames - 1) (w.in-Some.top.now.done + 1) within w.in-Some.ensures.value)))
  | in_default w ↦ rw w.self-inside-is c.self.invariant
]

pub returns : goal.returns
returns c = elim c.match-last_mut.branch [
  | in-Some w ↦ (
      let fs : List Frame = c.self.inside.frames.items in
      let some : 0 < vec_len c.self.inside.frames = w.in-Some.ensures.variant.0 refl in
      let at : (vec_len c.self.inside.frames - 1) + 1 ≡ length fs = omega (arith, some, c.self.inside.frames.ok.0) in
      rw w.self-inside-is (top_advances fs w.in-Some.top.now (vec_len c.self.inside.frames - 1) at w.in-Some.ensures.value ∙ ap advanced c.self.view_is))
  | in_default w ↦
      rw w.self-inside-is (none_advances c.self.inside.frames.items (vec_len c.self.inside.frames) c.self.inside.frames.ok.0 w.in_default.ensures.variant.1 ∙ ap advanced c.self.view_is)
]
