-- By what the code compares the texts of a constant pool: for each text, the index of the first Utf8 that has it.
use Rattle.std.specs.Prelude.{ℕ, ◌+◌, List, [], ◌∷◌, map, Bool, false, Option, Some, None, slice_get, if◌then◌else◌}
use Rattle.std.specs.declared.cmp.Ordering.{Ordering}
use Rattle.std.specs.Ordering.{is_eq, nat_cmp}
use Rattle.std.specs.Cmp.Lexicographic.{slice_cmp}
use Rattle.std.specs.Borrow.{Bor}
use Rattle.std.specs.BTreeMap.{BTreeMap, get_by}
use Rattle.std.specs.Option.{option_or}
use Rattle.std.specs.Str.{bytes_eq}
use Rattle.class_tree.specs.declared.constant_pool.PoolEntry.{PoolEntry}
use Rattle.class_tree.specs.declared.constant_pool.PoolEntry.TheVariants.{Class}
use Rattle.class_tree.specs.Links.{text_in, holds}
use Rattle.class_tree.specs.WellFormed.{text_of, NameAndDescriptor}

-- ---- places

-- the index of the first Utf8 with this text, where the entries stand from index n on
abbrev pub place_from : List PoolEntry → ℕ → List ℕ → Option ℕ
place_from [] n text = None
place_from (e ∷ es) n text = if holds (text_in (Some e)) (bytes_eq text) then Some n else place_from es (n + 1) text

-- the place of a text, where there is one
abbrev pub place_in : List PoolEntry → Option (List ℕ) → Option ℕ
place_in pool (Some text) = place_from pool 0 text
place_in pool None = None

-- the place of the text of the Utf8 at an index
abbrev pub place_at : List PoolEntry → ℕ → Option ℕ
place_at pool index = place_in pool (text_of pool index)

abbrev pub entry_place : List PoolEntry → PoolEntry → Option ℕ
entry_place pool e = place_in pool (text_in (Some e))

unfoldable pub all_places : List PoolEntry → List (Option ℕ)
all_places pool = map (entry_place pool) pool

-- what a map from texts to places knows of a text
abbrev pub known_at : BTreeMap (Bor (List ℕ)) ℕ → List ℕ → Option ℕ
known_at known text = get_by (λ k. slice_cmp nat_cmp text k.now) known

-- the place that is known of a text, or else the next one
abbrev pub place_among : (List ℕ → Option ℕ) → ℕ → Option (List ℕ) → Option ℕ
place_among known next (Some text) = option_or (known text) (Some next)
place_among known next None = None

-- ---- keys

abbrev pub class_key_in : List PoolEntry → Option PoolEntry → Option ℕ
class_key_in pool (Some (Class name)) = place_at pool name
class_key_in pool _ = None

-- the place of what the Class at an index names
abbrev pub class_key : List PoolEntry → ℕ → Option ℕ
class_key pool index = class_key_in pool (slice_get pool index)

abbrev pub both : Option ℕ → Option ℕ → Option (ℕ × ℕ)
both (Some a) (Some b) = Some (a, b)
both _ _ = None

-- the places of a member's name and of its descriptor, where it has both
abbrev pub member_key : List PoolEntry → NameAndDescriptor → Option (ℕ × ℕ)
member_key pool m = both (place_at pool m.0) (place_at pool m.1)

unfoldable pub class_keys : List PoolEntry → List ℕ → List (Option ℕ)
class_keys pool classes = map (class_key pool) classes

unfoldable pub member_keys : {A : Type 0} → List PoolEntry → (A → NameAndDescriptor) → List A → List (Option (ℕ × ℕ))
member_keys pool member xs = map (λ x. member_key pool (member x)) xs

-- a key is there, and was seen
abbrev pub is_known : {K : Type 0} → (K → Bool) → Option K → Bool
is_known seen (Some key) = seen key
is_known seen None = false

-- two keys are there, and they are equal
abbrev pub is_same_key : {K : Type 0} → (K → K → Ordering) → Option K → Option K → Bool
is_same_key compare (Some a) (Some b) = is_eq (compare a b)
is_same_key compare _ _ = false
