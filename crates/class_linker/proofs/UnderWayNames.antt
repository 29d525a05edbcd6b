-- The names of the classes under way, in the list and in the set.
use Rattle.std.proofs.Common.{◌≡◌, ℕ, Bool, false, ◌||◌, List, [], ◌∷◌, ◌++◌, map, reverse, refl, sym, ap, ◌∙◌, if◌then◌else◌}
use Rattle.std.specs.Global.{Vec}
use Rattle.std.specs.HashSet.{HashSet}
use Rattle.std.specs.List.{list_any}
use Rattle.std.specs.Str.{bytes_eq}
use Rattle.std.proofs.lemmas.List.{map-append}
use Rattle.std.proofs.lemmas.List.Sorted.{IsPermutation-reverse, list_any-IsPermutation}
use Rattle.class_record.specs.Files.{Name}
use Rattle.class_record.specs.Loading.{is_among}
use Rattle.class_linker.specs.declared.under_way.Frame.{Frame}
use Rattle.class_linker.specs.Kept.{name_of_frame, names_under}
use Rattle.class_linker.specs.Paths.{KnowsNames}

abbrev name_of_key : Vec ℕ → Name
name_of_key key = key.items

any_key : (name : Name) (keys : List (Vec ℕ)) → list_any (λ (key : Vec ℕ). bytes_eq name key.items) keys ≡ is_among name (map name_of_key keys)
any_key name [] = refl
any_key name (k ∷ ks) = ap (λ (b : Bool). bytes_eq name k.items || b) (any_key name ks)

any_frame : (name : Name) (fs : List Frame) → list_any (λ (f : Frame). bytes_eq name f.name) fs ≡ is_among name (names_under fs)
any_frame name [] = refl
any_frame name (f ∷ fs) = ap (λ (b : Bool). bytes_eq name f.name || b) (any_frame name fs)

-- in whatever order
pub among_reverse : (name : Name) (fs : List Frame) → is_among name (names_under fs) ≡ is_among name (names_under (reverse fs))
among_reverse name fs =
    sym (any_frame name fs) ∙ list_any-IsPermutation (λ (f : Frame). bytes_eq name f.name) fs (reverse fs) (IsPermutation-reverse fs) ∙ any_frame name (reverse fs)

-- The set has a name exactly where its class is under way.
pub knows_name : {S : Type 0} (names : HashSet (Vec ℕ) S) (fs : List Frame) (name : Name) → KnowsNames names fs
    → list_any (λ (key : Vec ℕ). bytes_eq name key.items) names.keys ≡ is_among name (names_under (reverse fs))
knows_name names fs name k = any_key name names.keys ∙ ap (is_among name) k ∙ among_reverse name fs

-- One class more is under way.
pub knows_more : {S : Type 0} (old new : HashSet (Vec ℕ) S) (fs : List Frame) (key : Vec ℕ) (f : Frame) → KnowsNames old fs → key.items ≡ f.name → is_among f.name (names_under (reverse fs)) ≡ false
    → new.keys ≡ (if list_any (λ (other : Vec ℕ). bytes_eq key.items other.items) old.keys then old.keys else old.keys ++ key ∷ []) → KnowsNames new (fs ++ f ∷ [])
knows_more old new fs key f k named fresh keys =
    let absent : list_any (λ (other : Vec ℕ). bytes_eq key.items other.items) old.keys ≡ false =
    knows_name old fs key.items k ∙ ap (λ (n : Name). is_among n (names_under (reverse fs))) named ∙ fresh in
    let longer : new.keys ≡ old.keys ++ key ∷ [] = keys ∙ ap (λ (b : Bool). if b then old.keys else old.keys ++ key ∷ []) absent in
    ap (map name_of_key) longer ∙ map-append name_of_key old.keys (key ∷ []) ∙ ap (λ (ns : List Name). ns ++ key.items ∷ []) k ∙ ap (λ (n : Name). names_under fs ++ n ∷ []) named
    ∙ sym (map-append name_of_frame fs (f ∷ []))
