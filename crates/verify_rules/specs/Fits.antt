-- Which questions make a frame fit a declared one (JVM Specification SE 8, 4.10.1.4).
use Rattle.std.specs.Prelude.{ℕ, not, ◌||◌, List, [], ◌∷◌, length, nat_eq}
use Rattle.verify_rules.specs.declared.types.VType.{VType}
use Rattle.verify_rules.specs.declared.types.VType.TheVariants.{Object}
use Rattle.verify_rules.specs.declared.types.Frame.{Frame}
use Rattle.verify_rules.specs.declared.cause.Cause.TheVariants.{Length, Unfinished}
use Rattle.verify_rules.specs.Asking.{Check, fine, refused, test, and_then}
use Rattle.verify_rules.specs.Assign.{assign, local_assign}

-- local by local from 0 on
unfoldable pub locals_fit : List VType → List VType → Check
locals_fit [] [] = fine
locals_fit (a ∷ from) (b ∷ to) = and_then (local_assign a b) (locals_fit from to)
locals_fit [] (b ∷ to) = refused Length
locals_fit (a ∷ from) [] = refused Length

-- Operands, the top first. The deepest are compared first.
unfoldable pub operands_fit : List VType → List VType → Check
operands_fit [] [] = fine
operands_fit (a ∷ from) (b ∷ to) = and_then (operands_fit from to) (assign a b)
operands_fit [] (b ∷ to) = refused Length
operands_fit (a ∷ from) [] = refused Length

-- stacks of one length
unfoldable pub stacks_fit : List VType → List VType → Check
stacks_fit from to = and_then (test Length (nat_eq (length from) (length to))) (operands_fit from to)

-- The locals, the lengths of the stacks, the stacks, and that `this` isn't forgotten while no constructor was called on it.
unfoldable pub frame_fits : Frame → Frame → Check
frame_fits from to = and_then (locals_fit from.locals to.locals) (and_then (stacks_fit from.stack to.stack) (test Unfinished (not from.this_uninit || to.this_uninit)))

-- the frame in which a handler begins that catches a class: the throwable alone is on the stack
abbrev pub caught : List ℕ → Frame → Frame
caught class f = record { locals = f.locals; stack = Object class ∷ []; this_uninit = f.this_uninit }
