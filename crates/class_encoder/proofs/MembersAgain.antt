-- Fields and methods that were made of members are made again of the members that are written of them.
use Rattle.std.proofs.Common.{◌≡◌, ℕ, zero, suc, ◌<◌, codes, Bool, true, false, eqb, cond, List, [], ◌∷◌, length, map, Option, Some, None, refl, ap, subst, ◌∙◌, lit<}
use Rattle.std.specs.List.{AllByRecursion}
use Rattle.std.proofs.Math.Dec.{eqb-suc-zero}
use Rattle.jsa_base.specs.Reading.{◌>>=◌, u2_at, all_read}
use Rattle.jsa_base.specs.Spelling.{u2, FitsLongText, FitsCounted}
use Rattle.jsa_base.proofs.Codecs.{bind_some, some_is, all_read_is, u2_codec}
use Rattle.class_tree.specs.declared.constant_pool.PoolEntry.{PoolEntry}
use Rattle.class_tree.specs.declared.tree.CodeTree.{CodeTree}
use Rattle.class_tree.specs.declared.tree.FieldTree.{FieldTree}
use Rattle.class_tree.specs.declared.tree.MethodTree.{MethodTree}
use Rattle.class_tree.specs.ClassFiles.{Member, code_text, FitsAttribute, FitsMember}
use Rattle.class_tree.specs.Flags.{is_static}
use Rattle.class_tree.specs.Trees.{have_names, content_of, value_of, constant_of, field_of, code_of, code_in, method_of, each}
use Rattle.class_tree.specs.Encoded.{named, constant_attributes, code_parts, field_member, code_attributes, method_member}
use Rattle.class_tree.proofs.ClassCodecs.{passed}
use Rattle.class_encoder.proofs.Named.{Named}
use Rattle.class_encoder.proofs.AttributesAgain.{found, one_fits, one_has_name, one_is_found, none_have_names, none_is_found}
use Rattle.class_encoder.proofs.CodesAgain.{goes_on, code_again}

-- What is written of a thing fits, and the thing is made of it.
pub record Again {A B : Type 0} (make : A → Option B) (Fits : A → Type 0) (back : A) (b : B) : Type 0 where
  pub fits : Fits back
  pub made : make back ≡ Some b

-- ---- fields

abbrev constant_name : List ℕ
constant_name = codes "ConstantValue"

-- a member with the attributes that are written of a value
abbrev with_constant : List PoolEntry → Member → ℕ → Member
with_constant pool m value = record { flags = m.flags; name = m.name; desc = m.desc; attributes = constant_attributes pool value }

-- The value is made of the attributes that are written of it.
record ValueAgain (pool : List PoolEntry) (m : Member) (value : ℕ) : Type 0 where
  fits : FitsCounted FitsAttribute (constant_attributes pool value)
  named : have_names pool (constant_attributes pool value) ≡ true
  content : Option (List ℕ)
  found : constant_of pool (with_constant pool m value) ≡ Some content
  made : value_of content ≡ Some value

abbrev index_alone : ℕ → Option ℕ
index_alone index = cond (eqb index 0) None (Some index)

-- an index that is no 0
record Index (value : ℕ) : Type 0 where
  small : value < 65536
  some : eqb value 0 ≡ false

not_zero : (n value : ℕ) → index_alone n ≡ Some value → (n ≡ value) × (eqb n 0 ≡ false)
not_zero zero value h = absurd cc
not_zero (suc n) value h = let s : eqb (suc n) 0 ≡ false = eqb-suc-zero n in (some_is (suc n) value (rw s at h), s)

index_of : (content : List ℕ) (value : ℕ) → FitsLongText content → value_of (Some content) ≡ Some value → Index value
index_of content value fits h =
    let a = bind_some (all_read (u2_at content)) index_alone value h in
    let n = not_zero a.0 value a.2 in
    let t = u2_codec.takes content a.0 [] fits.1 (all_read_is (u2_at content) a.0 a.1) in
    record { small = subst (λ (k : ℕ). k < 65536) n.0 t.fits; some = subst (λ (k : ℕ). eqb k 0 ≡ false) n.0 n.1 }

index_again : (value : ℕ) → value < 65536 → eqb value 0 ≡ false → value_of (Some (u2 value)) ≡ Some value
index_again value small some =
    ap (λ (r : Option (ℕ × List ℕ)). all_read r >>= index_alone) (u2_codec.again value [] small) ∙ rw some refl

no_value : (pool : List PoolEntry) (m : Member) → ValueAgain pool m 0
unfolding constant_of
no_value pool m = record { fits = (lit< tt, tt); named = none_have_names pool; content = None; found = either (is_static m.flags); made = refl } where
  either : (b : Bool) → cond b (content_of pool constant_name []) (Some None) ≡ Some None
  either true = none_is_found pool constant_name
  either false = refl

-- a constant that was found
constant_found : (pool : List PoolEntry) (m : Member) (content : List ℕ) → constant_of pool m ≡ Some (Some content) → (is_static m.flags ≡ true) × (content_of pool constant_name m.attributes ≡ Some (Some content))
unfolding constant_of
constant_found pool m content h = by (is_static m.flags) refl h where
  by : (b : Bool) → is_static m.flags ≡ b → cond b (content_of pool constant_name m.attributes) (Some None) ≡ Some (Some content) → (is_static m.flags ≡ true) × (content_of pool constant_name m.attributes ≡ Some (Some content))
  by true is k = (is, k)
  by false is k = absurd cc

-- the attributes of an index that is no 0
constants_are : (pool : List PoolEntry) (value : ℕ) → eqb value 0 ≡ false → constant_attributes pool value ≡ named pool constant_name (u2 value) ∷ []
constants_are pool value some = rw some refl

constant_again : (pool : List PoolEntry) (m : Member) (value : ℕ) → is_static m.flags ≡ true → eqb value 0 ≡ false → Named pool constant_name → constant_of pool (with_constant pool m value) ≡ Some (Some (u2 value))
unfolding constant_of
constant_again pool m value static some n = rw (static, some) (one_is_found pool constant_name (u2 value) n)

some_value : (pool : List PoolEntry) (m : Member) (content : List ℕ) (value : ℕ) → FitsMember m → constant_of pool m ≡ Some (Some content) → value_of (Some content) ≡ Some value → ValueAgain pool m value
some_value pool m content value fits is made =
    let c = constant_found pool m content is in
    let f = found pool constant_name content m.attributes fits.attributes c.1 in
    let i = index_of content value f.fits made in
    let one = constants_are pool value i.some in
    let bytes : FitsLongText (u2 value) = (lit< tt, u2_codec.bytes value i.small) in
    record {
      fits = rw one (one_fits pool constant_name (u2 value) f.name_is bytes);
      named = rw one (one_has_name pool constant_name (u2 value) f.name_is);
      content = Some (u2 value);
      found = constant_again pool m value c.0 i.some f.name_is;
      made = index_again value i.small i.some;
    }

value_again : (pool : List PoolEntry) (m : Member) (content : Option (List ℕ)) (value : ℕ) → FitsMember m → constant_of pool m ≡ Some content → value_of content ≡ Some value → ValueAgain pool m value
value_again pool m None value fits is made = subst (ValueAgain pool m) (some_is 0 value made) (no_value pool m)
value_again pool m (Some content) value fits is made = some_value pool m content value fits is made

abbrev with_value : Member → ℕ → FieldTree
with_value m value = record { flags = m.flags; name = m.name; desc = m.desc; value = value }

abbrev behind_content : Member → Option (List ℕ) → Option FieldTree
behind_content m content = value_of content >>= λ value. Some (with_value m value)

abbrev behind_field_names : List PoolEntry → Member → Option FieldTree
behind_field_names pool m = constant_of pool m >>= behind_content m

with_value_again : (pool : List PoolEntry) (m : Member) (value : ℕ) → FitsMember m → ValueAgain pool m value → Again (field_of pool) FitsMember (field_member pool (with_value m value)) (with_value m value)
unfolding field_of
with_value_again pool m value fits v =
    let back = with_constant pool m value in
    let again : FitsMember back = record { flags = fits.flags; name = fits.name; desc = fits.desc; attributes = v.fits } in
    record {
      fits = again;
      made =
          goes_on (have_names pool back.attributes) (behind_field_names pool back) v.named
          ∙ ap (λ (o : Option (Option (List ℕ))). o >>= behind_content back) v.found
          ∙ ap (λ (o : Option ℕ). o >>= λ value. Some (with_value back value)) v.made;
    }

pub field_again : (pool : List PoolEntry) (m : Member) (f : FieldTree) → FitsMember m → field_of pool m ≡ Some f → Again (field_of pool) FitsMember (field_member pool f) f
unfolding field_of
field_again pool m f fits h =
    let n = passed (have_names pool m.attributes) (behind_field_names pool m) f h in
    let a = bind_some (constant_of pool m) (behind_content m) f n.1 in
    let b = bind_some (value_of a.0) (λ value. Some (with_value m value)) f a.2 in
    subst (λ (x : FieldTree). Again (field_of pool) FitsMember (field_member pool x) x) (some_is (with_value m b.0) f b.2)
    (with_value_again pool m b.0 fits (value_again pool m a.0 b.0 fits a.1 b.1))

-- ---- methods

abbrev code_name : List ℕ
code_name = codes "Code"

-- The code is made of the attributes that are written of it.
record BodyAgain (pool : List PoolEntry) (code : Option CodeTree) : Type 0 where
  fits : FitsCounted FitsAttribute (code_attributes pool code)
  named : have_names pool (code_attributes pool code) ≡ true
  content : Option (List ℕ)
  found : content_of pool code_name (code_attributes pool code) ≡ Some content
  made : code_in pool content ≡ Some code

no_body : (pool : List PoolEntry) → BodyAgain pool None
no_body pool = record { fits = (lit< tt, tt); named = none_have_names pool; content = None; found = none_is_found pool code_name; made = refl }

some_body : (pool : List PoolEntry) (m : Member) (content : List ℕ) (code : CodeTree) → FitsMember m → content_of pool code_name m.attributes ≡ Some (Some content) → code_of pool content ≡ Some code → BodyAgain pool (Some code)
some_body pool m content code fits is made =
    let f = found pool code_name content m.attributes fits.attributes is in
    let c = code_again pool content code f.fits made in
    let text = code_text (code_parts pool code) in
    record {
      fits = one_fits pool code_name text f.name_is c.fits;
      named = one_has_name pool code_name text f.name_is;
      content = Some text;
      found = one_is_found pool code_name text f.name_is;
      made = ap (λ (o : Option CodeTree). o >>= λ k. Some (Some k)) c.made;
    }

body_again : (pool : List PoolEntry) (m : Member) (content : Option (List ℕ)) (code : Option CodeTree) → FitsMember m → content_of pool code_name m.attributes ≡ Some content → code_in pool content ≡ Some code → BodyAgain pool code
body_again pool m None code fits is made = subst (BodyAgain pool) (some_is None code made) (no_body pool)
body_again pool m (Some content) code fits is made =
    let a = bind_some (code_of pool content) (λ k. Some (Some k)) code made in
    subst (BodyAgain pool) (some_is (Some a.0) code a.2) (some_body pool m content a.0 fits is a.1)

abbrev with_code : Member → Option CodeTree → MethodTree
with_code m code = record { flags = m.flags; name = m.name; desc = m.desc; code = code }

abbrev behind_code_content : List PoolEntry → Member → Option (List ℕ) → Option MethodTree
behind_code_content pool m content = code_in pool content >>= λ code. Some (with_code m code)

abbrev behind_method_names : List PoolEntry → Member → Option MethodTree
behind_method_names pool m = content_of pool code_name m.attributes >>= behind_code_content pool m

with_code_again : (pool : List PoolEntry) (m : Member) (code : Option CodeTree) → FitsMember m → BodyAgain pool code → Again (method_of pool) FitsMember (method_member pool (with_code m code)) (with_code m code)
unfolding method_of
with_code_again pool m code fits v =
    let back = method_member pool (with_code m code) in
    let again : FitsMember back = record { flags = fits.flags; name = fits.name; desc = fits.desc; attributes = v.fits } in
    record {
      fits = again;
      made =
          goes_on (have_names pool back.attributes) (behind_method_names pool back) v.named
          ∙ ap (λ (o : Option (Option (List ℕ))). o >>= behind_code_content pool back) v.found
          ∙ ap (λ (o : Option (Option CodeTree)). o >>= λ code. Some (with_code back code)) v.made;
    }

pub method_again : (pool : List PoolEntry) (m : Member) (t : MethodTree) → FitsMember m → method_of pool m ≡ Some t → Again (method_of pool) FitsMember (method_member pool t) t
unfolding method_of
method_again pool m t fits h =
    let n = passed (have_names pool m.attributes) (behind_method_names pool m) t h in
    let a = bind_some (content_of pool code_name m.attributes) (behind_code_content pool m) t n.1 in
    let b = bind_some (code_in pool a.0) (λ code. Some (with_code m code)) t a.2 in
    subst (λ (x : MethodTree). Again (method_of pool) FitsMember (method_member pool x) x) (some_is (with_code m b.0) t b.2)
    (with_code_again pool m b.0 fits (body_again pool m a.0 b.0 fits a.1 b.1))

-- ---- a list of them

pub record AllAgain {A B : Type 0} (make : A → Option B) (Fits : A → Type 0) (back : B → A) (bs : List B) (count : ℕ) : Type 0 where
  pub fits : AllByRecursion Fits (map back bs)
  pub made : each make (map back bs) ≡ Some bs
  pub long : length (map back bs) ≡ count

all_one : {A B : Type 0} (make : A → Option B) (Fits : A → Type 0) (back : B → A) (b : B) (bs : List B) (count : ℕ) → Again make Fits (back b) b → AllAgain make Fits back bs count → AllAgain make Fits back (b ∷ bs) (suc count)
unfolding each
all_one {A} {B} make Fits back b bs count one more = record {
  fits = (one.fits, more.fits);
  made = ap (λ (o : Option B). o >>= λ first. each make (map back bs) >>= λ others. Some (first ∷ others)) one.made ∙ ap (λ (o : Option (List B)). o >>= λ others. Some (b ∷ others)) more.made;
  long = ap suc more.long;
}

all_none : {A B : Type 0} (make : A → Option B) (Fits : A → Type 0) (back : B → A) → AllAgain make Fits back [] 0
unfolding each
all_none make Fits back = record { fits = tt; made = refl; long = refl }

pub all_again : {A B : Type 0} (make : A → Option B) (Fits : A → Type 0) (back : B → A) → ((a : A) (b : B) → Fits a → make a ≡ Some b → Again make Fits (back b) b)
    → (members : List A) (bs : List B) → AllByRecursion Fits members → each make members ≡ Some bs → AllAgain make Fits back bs (length members)
unfolding each
all_again {A} {B} make Fits back again [] bs fits h = subst (λ (x : List B). AllAgain make Fits back x 0) (some_is [] bs h) (all_none make Fits back)
all_again {A} {B} make Fits back again (a ∷ more) bs fits h =
    let first = bind_some (make a) (λ first. each make more >>= λ others. Some (first ∷ others)) bs h in
    let others = bind_some (each make more) (λ others. Some (first.0 ∷ others)) bs first.2 in
    subst (λ (x : List B). AllAgain make Fits back x (suc (length more))) (some_is (first.0 ∷ others.0) bs others.2)
    (all_one make Fits back first.0 others.0 (length more) (again a first.0 fits.0 first.1) (all_again make Fits back again more others.0 fits.1 others.1))
