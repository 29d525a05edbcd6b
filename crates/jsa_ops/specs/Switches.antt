-- What a switch does with a key (JVM Specification SE 8, 6.5, tableswitch and lookupswitch).
use Rattle.std.specs.Prelude.{◌≡◌, ℕ, ℤ, ◌-ℤ◌, Bool, true, false, ◌||◌, List, [], ◌∷◌, Option, Some, None, FitsSigned, map, slice_get, unsigned_abs, int_lt, if◌then◌else◌}
use Rattle.std.specs.Int.{w32}
use Rattle.std.specs.Ordering.{int_eq}
use Rattle.jsa_ops.specs.Instruction.{Instruction, Plain, Byte, Short, Constant, Local, Iinc, Wide, WideIinc, Branch, Member, Interface, Dynamic, ClassOf, NewArray, MultiArray, TableSwitch, LookupSwitch}
use Rattle.jsa_ops.specs.Spelling.{word, distances, pairs}
use Rattle.jsa_ops.specs.Places.{IsDecoded}

-- ---- one after the other

-- the distance at the front of those of a tableswitch, and the bytes of the others
abbrev pub first_distance : List ℕ → Option (ℤ × List ℕ)
first_distance (a ∷ b ∷ c ∷ d ∷ more) = Some (word a b c d, more)
first_distance _ = None

-- the pair at the front of those of a lookupswitch, and the bytes of the others
abbrev pub first_pair : List ℕ → Option ((ℤ × ℤ) × List ℕ)
first_pair (a ∷ b ∷ c ∷ d ∷ e ∷ f ∷ g ∷ h ∷ more) = Some ((word a b c d, word e f g h), more)
first_pair _ = None

-- ---- by their places

-- the distances of the pairs of a lookupswitch
abbrev pub pair_distances : List ℕ → List ℤ
pair_distances bytes = map (λ p. p.1) (pairs bytes)

-- the distances of a switch without its default: of another instruction there are none
abbrev pub distances_of : Instruction → List ℤ
distances_of (Plain op) = []
distances_of (Byte op v) = []
distances_of (Short op v) = []
distances_of (Constant op i) = []
distances_of (Local op n) = []
distances_of (Iinc op n v) = []
distances_of (Wide op code n) = []
distances_of (WideIinc op n v) = []
distances_of (Branch op d) = []
distances_of (Member op i) = []
distances_of (Interface op i a b) = []
distances_of (Dynamic op i a b) = []
distances_of (ClassOf op i) = []
distances_of (NewArray op code) = []
distances_of (MultiArray op i d) = []
distances_of (TableSwitch op other low high bytes) = distances bytes
distances_of (LookupSwitch op other bytes) = pair_distances bytes

-- ---- by a key

-- A key from low to high has the distance whose place is the key less low, and any other key the default.
abbrev pub table_distance : ℤ → ℤ → ℤ → List ℤ → ℤ → Option ℤ
table_distance other low high all key = if int_lt key low || int_lt high key then Some other else slice_get all (unsigned_abs (key -ℤ low))

-- A key has the distance of the pair with that key, and where there is none the default.
abbrev pub pair_distance : ℤ → List (ℤ × ℤ) → ℤ → ℤ
pair_distance other [] key = other
pair_distance other (p ∷ more) key = if int_eq p.0 key then p.1 else pair_distance other more key

-- how far a switch goes on from its opcode
abbrev pub distance_for : Instruction → ℤ → Option ℤ
distance_for (Plain op) key = None
distance_for (Byte op v) key = None
distance_for (Short op v) key = None
distance_for (Constant op i) key = None
distance_for (Local op n) key = None
distance_for (Iinc op n v) key = None
distance_for (Wide op code n) key = None
distance_for (WideIinc op n v) key = None
distance_for (Branch op d) key = None
distance_for (Member op i) key = None
distance_for (Interface op i a b) key = None
distance_for (Dynamic op i a b) key = None
distance_for (ClassOf op i) key = None
distance_for (NewArray op code) key = None
distance_for (MultiArray op i d) key = None
distance_for (TableSwitch op other low high bytes) key = table_distance other low high (distances bytes) key
distance_for (LookupSwitch op other bytes) key = Some (pair_distance other (pairs bytes) key)

-- ---- a law

abbrev pub is_switch : Instruction → Bool
is_switch (Plain op) = false
is_switch (Byte op v) = false
is_switch (Short op v) = false
is_switch (Constant op i) = false
is_switch (Local op n) = false
is_switch (Iinc op n v) = false
is_switch (Wide op code n) = false
is_switch (WideIinc op n v) = false
is_switch (Branch op d) = false
is_switch (Member op i) = false
is_switch (Interface op i a b) = false
is_switch (Dynamic op i a b) = false
is_switch (ClassOf op i) = false
is_switch (NewArray op code) = false
is_switch (MultiArray op i d) = false
is_switch (TableSwitch op other low high bytes) = true
is_switch (LookupSwitch op other bytes) = true

-- A switch that some bytes decode to goes on for each key.
abbrev pub EachKeyGoesOn : Type 0
EachKeyGoesOn = (i : Instruction) → IsDecoded i → is_switch i ≡ true → (key : ℤ) → FitsSigned w32 key → (d : ℤ) × (distance_for i key ≡ Some d)
