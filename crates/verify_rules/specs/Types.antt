-- Verification types, and the units of locals and stack that they take (JVM Specification SE 8, 4.10.1.2 to 4.10.1.4).
use Rattle.std.specs.Prelude.{◌≡◌, ℕ, ◌+◌, Bool, true, false, cond, List, [], ◌∷◌, ◌++◌, map, nat_eq, nat_le, Result, Ok, Err}
use Rattle.verify_rules.specs.declared.types.VType.{VType}
use Rattle.verify_rules.specs.declared.types.Unfinished.{Unfinished}
use Rattle.verify_rules.specs.declared.types.Unfinished.TheVariants.{MadeAt, ThisObject}
use Rattle.verify_rules.specs.declared.types.VType.TheVariants.{Top, Integer, Float, Double, Long, Null, UninitializedThis, Object, Uninitialized}

-- the last first: a stack that is kept with its top last is seen with its top first
abbrev pub top_first : {A : Type 0} → List A → List A
top_first [] = []
top_first (x ∷ xs) = top_first xs ++ x ∷ []

-- the units of locals and of stack that a type takes
abbrev pub size : VType → ℕ
size Top = 1
size Integer = 1
size Float = 1
size Double = 2
size Long = 2
size Null = 1
size UninitializedThis = 1
size (Object name) = 1
size (Uninitialized place) = 1

unfoldable pub units : List VType → ℕ
units [] = 0
units (t ∷ ts) = size t + units ts

abbrev pub is_top : VType → Bool
is_top Top = true
is_top Integer = false
is_top Float = false
is_top Double = false
is_top Long = false
is_top Null = false
is_top UninitializedThis = false
is_top (Object name) = false
is_top (Uninitialized place) = false

abbrev pub is_uninitialized_this : VType → Bool
is_uninitialized_this Top = false
is_uninitialized_this Integer = false
is_uninitialized_this Float = false
is_uninitialized_this Double = false
is_uninitialized_this Long = false
is_uninitialized_this Null = false
is_uninitialized_this UninitializedThis = true
is_uninitialized_this (Object name) = false
is_uninitialized_this (Uninitialized place) = false

-- an object that the `new` at this place made, and no `<init>` has finished
abbrev pub is_made_at : ℕ → VType → Bool
is_made_at place Top = false
is_made_at place Integer = false
is_made_at place Float = false
is_made_at place Double = false
is_made_at place Long = false
is_made_at place Null = false
is_made_at place UninitializedThis = false
is_made_at place (Object name) = false
is_made_at place (Uninitialized p) = nat_eq p place

abbrev pub is_copy_of : Unfinished → VType → Bool
is_copy_of (MadeAt place) t = is_made_at place t
is_copy_of ThisObject t = is_uninitialized_this t

-- a copy becomes the new type, all else stays
abbrev pub turned : Unfinished → VType → VType → VType
turned old new t = cond (is_copy_of old t) new t

unfoldable pub turned_all : Unfinished → VType → List VType → List VType
turned_all old new types = map (turned old new) types

-- What a push answers: whether the type has room, and then it is on top.
abbrev pub Pushed : {E : Type 0} → ℕ → VType → List VType → List VType → Result Bool E → Type 0
Pushed room t old new (Ok true) = (nat_le (units old + size t) room ≡ true) × (new ≡ t ∷ old)
Pushed room t old new (Ok false) = (nat_le (units old + size t) room ≡ false) × (new ≡ old)
Pushed room t old new (Err e) = Unit {0}
