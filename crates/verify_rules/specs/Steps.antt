-- What the steps of the larger calls do.
use Rattle.std.specs.Prelude.{◌≡◌, ℕ, cond, Bool, false, List, [], ◌∷◌, ◌++◌, Option, Some, None, Result, Ok, Err, slice_get, slice_set}
use Rattle.jsa_base.specs.Reading.{◌>>=◌}
use Rattle.class_tree.specs.declared.constant_pool.PoolEntry.{PoolEntry}
use Rattle.class_tree.specs.declared.tree.CodeTree.{CodeTree}
use Rattle.verify_rules.specs.declared.types.VType.{VType}
use Rattle.verify_rules.specs.declared.types.Unfinished.{Unfinished}
use Rattle.verify_rules.specs.declared.types.Frame.{Frame}
use Rattle.verify_rules.specs.declared.fault.VerifyFault.{VerifyFault}
use Rattle.verify_rules.specs.declared.written.Change.{Change}
use Rattle.verify_rules.specs.Types.{is_copy_of, is_top}
use Rattle.verify_rules.specs.Outcomes.{Fails}
use Rattle.verify_rules.specs.Frames.{Shown, shown_after, frame_of}

-- ---- copies of an object

abbrev pub turned_in : Unfinished → VType → List VType → ℕ → Option VType → List VType
turned_in old new types at (Some t) = cond (is_copy_of old t) (slice_set types at new) types
turned_in old new types at None = types

-- with the type at one place turned, if it is a copy
abbrev pub turned_at : Unfinished → VType → List VType → ℕ → List VType
turned_at old new types at = turned_in old new types at (slice_get types at)

-- ---- locals

abbrev pub is_top_in : Option VType → Bool
is_top_in (Some t) = is_top t
is_top_in None = false

-- Top stands at the place
abbrev pub is_top_at : List VType → ℕ → Bool
is_top_at types at = is_top_in (slice_get types at)

-- ---- what each change shows

abbrev pub with_item : List VType → Option VType → Option Shown
with_item locals item = item >>= λ t. Some (record { locals = locals; stack = t ∷ [] })

abbrev pub with_less : Option (List VType) → Option Shown
with_less left = left >>= λ ts. Some (record { locals = ts; stack = [] })

abbrev pub with_more : List VType → Option (List VType) → Option Shown
with_more locals more = more >>= λ ts. Some (record { locals = locals ++ ts; stack = [] })

abbrev pub with_all : Option (List VType) → Option (List VType) → Option Shown
with_all all items = all >>= λ ts. items >>= λ us. Some (record { locals = ts; stack = us })

-- A stack was given, and the locals are left so.
abbrev pub Changes : Result (List VType) VerifyFault → List VType → Option Shown → Type 0
Changes (Ok stack) locals shown = shown ≡ Some (record { locals = locals; stack = stack })
Changes (Err fault) locals shown = Fails fault shown

-- A value was given, and something is left.
abbrev pub Leaves : {A B : Type 0} → Result A VerifyFault → B → Option (A × B) → Type 0
Leaves (Ok x) left found = found ≡ Some (x, left)
Leaves (Err fault) left found = Fails fault found

abbrev pub framed_of : CodeTree → Shown → Option (Frame × List VType)
framed_of c s = frame_of c s >>= λ f. Some (f, s.locals)

-- the frame that a change makes, with its locals as they are written
abbrev pub framed : List PoolEntry → List ℕ → CodeTree → List VType → Change → Option (Frame × List VType)
framed pool code c locals change = shown_after pool code locals change >>= framed_of c
