-- What the map knows of the names of the readings.
use Rattle.std.proofs.Common.{◌≡◌, ℕ, Bool, true, false, ◌||◌, cond, List, [], ◌∷◌, ◌++◌, length, slice_get, Option, Some, None, refl, sym, ap, subst, ◌∙◌, arith}
use Rattle.std.specs.Cmp.Lexicographic.{nat_list_eq_equiv}
use Rattle.std.specs.Global.{Vec}
use Rattle.std.specs.HashMap.{HashMap, UpdatesBy}
use Rattle.std.specs.List.{list_any}
use Rattle.std.specs.Map.{lookup, IsKeyTest, AreApart, KeepsOthers}
use Rattle.std.specs.Option.{option_map, option_or}
use Rattle.std.specs.Str.{bytes_eq}
use Rattle.std.proofs.lemmas.Option.{slice_get-map}
use Rattle.std.proofs.lemmas.Slice.Eq.{bytes_eq-Decides}
use Rattle.class_record.specs.Files.{Name}
use Rattle.class_record.specs.Loading.{is_among}
use Rattle.class_linker.specs.declared.readings.Reading.{Reading}
use Rattle.class_linker.specs.Kept.{IsPlaceOf, name_read, names_read}
use Rattle.class_linker.specs.Places.{place_known, place_in, KnowsPlaces}
use Rattle.class_linker.proofs.ReadingPositions.{position-append, position-holds, position-none, position-nowhere}

-- ---- the map when a name gets a place

others : {K X : Type 0} (eq : K → K → Bool) (test other : K → Bool) (old new : List (K × X)) → KeepsOthers eq test old new → IsKeyTest eq other → AreApart test other → lookup other new ≡ lookup other old
unfolding KeepsOthers
others eq test other old new h one apart = h other one apart

apart : (key name k : Name) → bytes_eq key name ≡ false → bytes_eq key k ≡ true → bytes_eq name k ≡ false
apart key name k n y = nat_list_eq_equiv.symm name k ∙ sym (nat_list_eq_equiv.congr key k name y) ∙ n

updated_by : {S : Type 0} (same : Bool) (key : Vec ℕ) (place : ℕ) (old new : HashMap (Vec ℕ) ℕ S) → UpdatesBy (λ x y. bytes_eq x.items y.items) (λ k. bytes_eq key.items k.items) old new (Some place)
    → (name : Name) → bytes_eq key.items name ≡ same → place_known new name ≡ cond same (Some place) (place_known old name)
updated_by true key place old new h name e = subst (λ (n : Name). place_known new n ≡ Some place) ((bytes_eq-Decides key.items name).0 e) h.1
updated_by false key place old new h name e =
    others (λ (x y : Vec ℕ). bytes_eq x.items y.items) (λ (k : Vec ℕ). bytes_eq key.items k.items) (λ (k : Vec ℕ). bytes_eq name k.items) old.entries new.entries h.3
    (λ x y. nat_list_eq_equiv.congr name x.items y.items) (λ k. apart key.items name k.items e)

pub updated : {S : Type 0} (key : Vec ℕ) (place : ℕ) (old new : HashMap (Vec ℕ) ℕ S) → UpdatesBy (λ x y. bytes_eq x.items y.items) (λ k. bytes_eq key.items k.items) old new (Some place)
    → (name : Name) → place_known new name ≡ cond (bytes_eq key.items name) (Some place) (place_known old name)
updated key place old new h name = updated_by (bytes_eq key.items name) key place old new h name refl

-- ---- places of names

-- a test of the name of a reading is a test of the names
any_name : (name : Name) (rs : List Reading) → list_any (λ (r : Reading). bytes_eq name r.name) rs ≡ is_among name (names_read rs)
any_name name [] = refl
any_name name (r ∷ rs) = ap (λ (b : Bool). bytes_eq name r.name || b) (any_name name rs)

-- A place that is found is one of this name.
pub found : (rs : List Reading) (name : Name) (o : Option ℕ) → o ≡ place_in name rs → IsPlaceOf rs name o
found rs name None h = sym (any_name name rs) ∙ position-none (λ (r : Reading). bytes_eq name r.name) rs (sym h)
found rs name (Some k) h =
    let held = position-holds (λ (r : Reading). bytes_eq name r.name) rs k (sym h) in
    let here : held.place ≡ k = omega (arith, held.at) in
    let named : slice_get (names_read rs) held.place ≡ Some held.item.name = slice_get-map name_read rs held.place ∙ ap (option_map name_read) held.is in
    subst (λ (m : ℕ). slice_get (names_read rs) m ≡ Some name) here (named ∙ ap Some (sym ((bytes_eq-Decides name held.item.name).0 held.passes)))

-- A name that isn't among them has no place.
pub no_place : (rs : List Reading) (name : Name) → is_among name (names_read rs) ≡ false → place_in name rs ≡ None
no_place rs name h = position-nowhere (λ (r : Reading). bytes_eq name r.name) rs (any_name name rs ∙ h)

-- ---- readings that grow

or_none : (o : Option ℕ) → o ≡ option_or o None
or_none None = refl
or_none (Some k) = refl

in_longer : (same : Bool) (r : Reading) (rs : List Reading) (name : Name) → is_among r.name (names_read rs) ≡ false → bytes_eq r.name name ≡ same
    → cond same (Some (length rs)) (place_in name rs) ≡ option_or (place_in name rs) (cond (bytes_eq name r.name) (Some (length rs)) None)
in_longer true r rs name new e =
    let alike : r.name ≡ name = (bytes_eq-Decides r.name name).0 e in
    let none : place_in name rs ≡ None = no_place rs name (subst (λ (n : Name). is_among n (names_read rs) ≡ false) alike new) in
    let here : bytes_eq name r.name ≡ true = (bytes_eq-Decides name r.name).1 (sym alike) in
    sym (ap (λ (o : Option ℕ). option_or o (cond (bytes_eq name r.name) (Some (length rs)) None)) none ∙ ap (λ (b : Bool). cond b (Some (length rs)) None) here)
in_longer false r rs name new e =
    let other : bytes_eq name r.name ≡ false = nat_list_eq_equiv.symm name r.name ∙ e in
    or_none (place_in name rs) ∙ sym (ap (λ (b : Bool). option_or (place_in name rs) (cond b (Some (length rs)) None)) other)

pub knows_more : {S : Type 0} (old new : HashMap (Vec ℕ) ℕ S) (r : Reading) (rs : List Reading) (key : Name) (place : ℕ) → KnowsPlaces old rs → key ≡ r.name → place ≡ length rs → is_among r.name (names_read rs) ≡ false
    → ((name : Name) → place_known new name ≡ cond (bytes_eq key name) (Some place) (place_known old name)) → KnowsPlaces new (rs ++ r ∷ [])
knows_more old new r rs key place k named at fresh notes = record {
  known = λ name. notes name
      ∙ ap (λ (n : Name). cond (bytes_eq n name) (Some place) (place_known old name)) named
      ∙ ap (λ (n : ℕ). cond (bytes_eq r.name name) (Some n) (place_known old name)) at
      ∙ ap (λ (o : Option ℕ). cond (bytes_eq r.name name) (Some (length rs)) o) (k.known name)
      ∙ in_longer (bytes_eq r.name name) r rs name fresh refl
      ∙ sym (position-append (λ (s : Reading). bytes_eq name s.name) rs (r ∷ []));
}
