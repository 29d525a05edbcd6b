-- What the map from names to places says of them.
use Rattle.std.proofs.Common.{◌≡◌, ℕ, ◌<◌, Bool, true, false, List, length, Some, None, slice_get, refl, arith}
use Rattle.std.specs.Global.{Vec}
use Rattle.std.specs.HashMap.{HashMap}
use Rattle.std.proofs.lemmas.List.{length-map}
use Rattle.std.proofs.lemmas.Option.{slice_get_within}
use Rattle.loader_rules.specs.declared.loader.Loader.{Loader}
use Rattle.class_record.specs.Files.{Name, sees}
use Rattle.class_record.specs.Loading.{is_among}
use Rattle.class_record.specs.Facts.{name_of, names_of}
use Rattle.class_record.specs.Records.{facts_of}
use Rattle.loaded_classes.specs.declared.held.HeldClass.{HeldClass}
use Rattle.loaded_classes.specs.Held.{facts_in, facts_list, known_at, Knows, sees_class}
use Rattle.loaded_classes.proofs.Names.{stands, facts_at}

-- A name that is unknown isn't among them.
pub unknown : {S : Type 0} (places : HashMap (Vec ℕ) ℕ S) (names : List Name) (name : Name) → Knows places names → known_at places name ≡ None → is_among name names ≡ false
unknown places names name k none = by (is_among name names) refl
  where
    by : (b : Bool) → is_among name names ≡ b → b ≡ false
    by true e = let s = stands names name e in let there : known_at places name ≡ Some s.place = k.stands s.place name s.is in absurd cc
    by false e = refl

-- A place that is known is that of a class.
pub known_within : {S : Type 0} (places : HashMap (Vec ℕ) ℕ S) (held : List HeldClass) (name : Name) (id : ℕ) → Knows places (names_of (facts_list held)) → known_at places name ≡ Some id → id < length held
known_within places held name id k there =
    let within : id < length (names_of (facts_list held)) = slice_get_within (names_of (facts_list held)) id name (k.found name id there) in
    omega (arith, within, length-map (facts_list held) name_of, length-map held facts_in)

-- whether a loader sees what is held at a place
pub sees_held : (held : List HeldClass) (id : ℕ) (h : HeldClass) (from : Loader) (b : Bool) → slice_get held id ≡ Some h → sees from h.loader ≡ b → sees_class from (slice_get (facts_list held) id) ≡ b
unfolding facts_of
sees_held held id h from b is s = rw (facts_at held id h is) s

-- One name stands at one place.
pub one_place : {S : Type 0} (places : HashMap (Vec ℕ) ℕ S) (names : List Name) (name : Name) (i j : ℕ) → Knows places names → slice_get names i ≡ Some name → slice_get names j ≡ Some name → i ≡ j
one_place places names name i j k a b = let x : known_at places name ≡ Some i = k.stands i name a in let y : known_at places name ≡ Some j = k.stands j name b in cc
