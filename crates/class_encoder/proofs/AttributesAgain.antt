-- An attribute that was found among others is found again where it stands alone, under the index of its name.
use Rattle.std.proofs.Common.{◌≡◌, ℕ, ◌+◌, ◌≤◌, Bool, true, false, List, [], ◌∷◌, length, Option, Some, None, refl, sym, subst, arith, length-append, is_some, lit<}
use Rattle.std.specs.List.{flat_map, AllByRecursion}
use Rattle.jsa_base.specs.Spelling.{FitsLongText, FitsCounted}
use Rattle.class_tree.specs.declared.constant_pool.PoolEntry.{PoolEntry}
use Rattle.class_tree.specs.ClassFiles.{Attribute, attribute, FitsAttribute}
use Rattle.class_tree.specs.Links.{holds}
use Rattle.class_tree.specs.Trees.{is_text, have_names, contents, at_most_one, content_of}
use Rattle.class_tree.specs.Encoded as encoded
use Rattle.class_encoder.proofs.Named.{Named, named}

-- ---- what is found

-- a content that fits, of an attribute with this name, no longer with its name than the attributes
pub record Found (pool : List PoolEntry) (name content : List ℕ) (attributes : List Attribute) : Type 0 where
  pub name_is : Named pool name
  pub fits : FitsLongText content
  pub short : 6 + length content ≤ length (flat_map attribute attributes)

abbrev some_some : List ℕ → Option (Option (List ℕ))
some_some x = Some (Some x)

only_is : (x content : List ℕ) (others : List (List ℕ)) → at_most_one (x ∷ others) ≡ some_some content → x ≡ content
only_is x content [] h = cc
only_is x content (y ∷ others) h = absurd cc

-- the length of an attribute and of those behind it
pub front_long : (a : Attribute) (attributes : List Attribute) → length (flat_map attribute (a ∷ attributes)) ≡ (6 + length a.content) + length (flat_map attribute attributes)
front_long a attributes = omega (arith, length-append (attribute a) (flat_map attribute attributes))

found_by : (b : Bool) (pool : List PoolEntry) (name content : List ℕ) (a : Attribute) (attributes : List Attribute) → is_text pool a.name name ≡ b → FitsAttribute a
    → at_most_one (contents pool name (a ∷ attributes)) ≡ some_some content
    → (at_most_one (contents pool name attributes) ≡ some_some content → Found pool name content attributes) → Found pool name content (a ∷ attributes)
found_by true pool name content a attributes here fits h more =
    let k = rw here at h in
    let e : a.content ≡ content = only_is a.content content (contents pool name attributes) k in
    record {
      name_is = named pool name a.name here fits.name;
      fits = subst FitsLongText e fits.content;
      short = rw (sym e) (omega (arith, front_long a attributes));
    }
found_by false pool name content a attributes here fits h more =
    let f = more (rw here at h) in
    record { name_is = f.name_is; fits = f.fits; short = omega (arith, front_long a attributes, f.short) }

found_in : (pool : List PoolEntry) (name content : List ℕ) (attributes : List Attribute) → AllByRecursion FitsAttribute attributes
    → at_most_one (contents pool name attributes) ≡ some_some content → Found pool name content attributes
found_in pool name content [] fits h = absurd cc
found_in pool name content (a ∷ attributes) fits h =
    found_by (is_text pool a.name name) pool name content a attributes refl fits.0 h (found_in pool name content attributes fits.1)

pub found : (pool : List PoolEntry) (name content : List ℕ) (attributes : List Attribute) → FitsCounted FitsAttribute attributes
    → content_of pool name attributes ≡ some_some content → Found pool name content attributes
unfolding content_of
found pool name content attributes fits h = found_in pool name content attributes fits.1 h

-- ---- an attribute that stands alone

text_is_utf8 : (o : Option (List ℕ)) (test : List ℕ → Bool) → holds o test ≡ true → is_some o ≡ true
text_is_utf8 (Some text) test h = refl
text_is_utf8 None test h = absurd cc

pub one_fits : (pool : List PoolEntry) (name content : List ℕ) → Named pool name → FitsLongText content → FitsCounted FitsAttribute (encoded.named pool name content ∷ [])
one_fits pool name content n fits = (lit< tt, (record { name = n.small; content = fits }, tt))

pub one_has_name : (pool : List PoolEntry) (name content : List ℕ) → Named pool name → have_names pool (encoded.named pool name content ∷ []) ≡ true
unfolding have_names
one_has_name pool name content n = rw (text_is_utf8 _ _ n.is) refl

pub one_is_found : (pool : List PoolEntry) (name content : List ℕ) → Named pool name → content_of pool name (encoded.named pool name content ∷ []) ≡ some_some content
unfolding content_of
one_is_found pool name content n = rw n.is refl

pub none_have_names : (pool : List PoolEntry) → have_names pool [] ≡ true
unfolding have_names
none_have_names pool = refl

pub none_is_found : (pool : List PoolEntry) (name : List ℕ) → content_of pool name [] ≡ Some None
unfolding content_of
none_is_found pool name = refl
