-- The codec of a StackMapTable: what is read is spelled so, and what is spelled so is read.
use Rattle.std.proofs.Common.{◌≡◌, ℕ, ◌+◌, ◌-◌, ◌<◌, ◌≤◌, true, false, cond, eqb, ltb, leb, List, [], ◌∷◌, ◌++◌, length, Option, Some, None, refl, sym, ap, subst, ◌∙◌, append_assoc, arith, lit<, inl, inr}
use Rattle.std.specs.List.{AllByRecursion}
use Rattle.std.proofs.lemmas.Bool.{eqb-true, eqb-false, ne_eqb, lt-ltb, le-ltb, ltb-true, ltb-false, lt-leb, le-leb}
use Rattle.std.proofs.lemmas.List.{append-nil}
use Rattle.jsa_base.specs.Reading.{◌>>=◌, Read, IsBytes, u2_at, pair_at, made, counted_at, all_read}
use Rattle.jsa_base.specs.Spelling.{u1, u2, counted, Fits2, FitsCounted}
use Rattle.jsa_base.specs.Codec.{Took, Codec}
use Rattle.jsa_base.proofs.Codecs.{bind_some, some_is, all_read_is, append-IsBytes, u2_codec, times_codec, counted_codec, pair_codec, leaf, on_tag}
use Rattle.verify_rules.specs.declared.written.WrittenType.{WrittenType}
use Rattle.verify_rules.specs.declared.written.WrittenType.TheVariants.{Top, Integer, Float, Double, Long, Null, UninitializedThis, Object, Uninitialized}
use Rattle.verify_rules.specs.declared.written.Change.{Change}
use Rattle.verify_rules.specs.declared.written.Change.TheVariants.{Same, SameItem, Chop, Append, Full}
use Rattle.verify_rules.specs.declared.written.WrittenFrame.{WrittenFrame}
use Rattle.verify_rules.specs.Table.{type_text, types_text, change_text, frame_text, table_text, FitsType, FitsChange, FitsFrame, FitsTable, type_by, type_at, item_at, append_at, full_at, far_at, frame_by, frame_at, table_of, changed}
use Rattle.verify_rules.specs.Frames.{TablesAreSpelled}

-- ---- tests

-- one test of a kind
on_eq : {A : Type 0} {P : Type 0} (kind k : ℕ) (x y : Option A) (z : A) → (kind ≡ k → x ≡ Some z → P) → ((kind ≡ k → ⊥) → y ≡ Some z → P) → cond (eqb kind k) x y ≡ Some z → P
on_eq {A} {P} kind k x y z here past h =
    elim (eqb kind k) as (λ b. eqb kind k ≡ b → cond b x y ≡ Some z → P) [
      | true ↦ λ is. here (eqb-true kind k is)
      | false ↦ λ is. past (eqb-false kind k is)
    ] refl h

on_lt : {A : Type 0} {P : Type 0} (kind k : ℕ) (x y : Option A) (z : A) → (kind < k → x ≡ Some z → P) → (k ≤ kind → y ≡ Some z → P) → cond (ltb kind k) x y ≡ Some z → P
on_lt {A} {P} kind k x y z here past h =
    elim (ltb kind k) as (λ b. ltb kind k ≡ b → cond b x y ≡ Some z → P) [
      | true ↦ λ is. here (ltb-true kind k is)
      | false ↦ λ is. past (ltb-false kind k is)
    ] refl h

-- ---- a type

abbrev some_type : WrittenType × List ℕ → Read WrittenType
some_type x = Some x

-- a tag with nothing behind it
plain : (k : ℕ) (x : WrittenType) → type_text x ≡ u1 k → FitsType x → (tag : ℕ) (bytes : List ℕ) (t : WrittenType) (rest : List ℕ) → IsBytes bytes → tag ≡ k → some_type (x, bytes) ≡ Some (t, rest) → Took type_text FitsType (tag ∷ bytes) t rest
plain k x text fit tag bytes t rest fits is h =
    let parts : tag ∷ bytes ≡ type_text x ++ bytes = ap (λ (n : ℕ). n ∷ bytes) is ∙ ap (λ (b : List ℕ). b ++ bytes) (sym text) in
    subst (λ (y : WrittenType × List ℕ). Took type_text FitsType (tag ∷ bytes) y.0 y.1) (some_is (x, bytes) (t, rest) h) (record { parts = parts; rest_bytes = fits; fits = fit })

type_takes : (bytes : List ℕ) (t : WrittenType) (rest : List ℕ) → IsBytes bytes → type_at bytes ≡ Some (t, rest) → Took type_text FitsType bytes t rest
unfolding type_at type_by
type_takes [] t rest fits h = absurd cc
type_takes (tag ∷ bytes) t rest fits h =
    on_tag tag 0 _ _ _ (plain 0 Top refl tt tag bytes t rest fits.1)
    (on_tag tag 1 _ _ _ (plain 1 Integer refl tt tag bytes t rest fits.1)
    (on_tag tag 2 _ _ _ (plain 2 Float refl tt tag bytes t rest fits.1)
    (on_tag tag 3 _ _ _ (plain 3 Double refl tt tag bytes t rest fits.1)
    (on_tag tag 4 _ _ _ (plain 4 Long refl tt tag bytes t rest fits.1)
    (on_tag tag 5 _ _ _ (plain 5 Null refl tt tag bytes t rest fits.1)
    (on_tag tag 6 _ _ _ (plain 6 UninitializedThis refl tt tag bytes t rest fits.1)
    (on_tag tag 7 _ _ _ (leaf u2_at _ _ u2_codec 7 Object type_text FitsType (λ x. refl) (λ x h. h) tag bytes t rest fits.1)
    (on_tag tag 8 _ _ _ (leaf u2_at _ _ u2_codec 8 Uninitialized type_text FitsType (λ x. refl) (λ x h. h) tag bytes t rest fits.1)
    (λ n. absurd cc))))))))) h

-- a value made of what was read
given : {A B : Type 0} → (A → B) → Read A → Read B
given make read = read >>= λ x. Some (make x.0, x.1)

type_again : (t : WrittenType) (rest : List ℕ) → FitsType t → type_at (type_text t ++ rest) ≡ Some (t, rest)
unfolding type_at type_by given
type_again Top rest fits = refl
type_again Integer rest fits = refl
type_again Float rest fits = refl
type_again Double rest fits = refl
type_again Long rest fits = refl
type_again Null rest fits = refl
type_again UninitializedThis rest fits = refl
type_again (Object class) rest fits = ap (given Object) (u2_codec.again class rest fits)
type_again (Uninitialized place) rest fits = ap (given Uninitialized) (u2_codec.again place rest fits)

type_bytes : (t : WrittenType) → FitsType t → IsBytes (type_text t)
type_bytes Top fits = (lit< tt, tt)
type_bytes Integer fits = (lit< tt, tt)
type_bytes Float fits = (lit< tt, tt)
type_bytes Double fits = (lit< tt, tt)
type_bytes Long fits = (lit< tt, tt)
type_bytes Null fits = (lit< tt, tt)
type_bytes UninitializedThis fits = (lit< tt, tt)
type_bytes (Object class) fits = (lit< tt, u2_codec.bytes class fits)
type_bytes (Uninitialized place) fits = (lit< tt, u2_codec.bytes place fits)

type_codec : Codec type_at type_text FitsType
type_codec = record { takes = type_takes; again = type_again; bytes = type_bytes }

-- ---- what stands behind a written delta

abbrev behind_delta : Change → List ℕ
behind_delta Same = []
behind_delta (SameItem item) = type_text item
behind_delta (Chop count) = []
behind_delta (Append types) = types_text types
behind_delta (Full locals stack) = counted type_text locals ++ counted type_text stack

abbrev FitsFar : ℕ → Change → Type 0
FitsFar kind Same = kind ≡ 251
FitsFar kind (SameItem item) = (kind ≡ 247) × FitsType item
FitsFar kind (Chop count) = (1 ≤ count) × (count ≤ 3) × (kind + count ≡ 251)
FitsFar kind (Append types) = ((1 ≤ length types) × (length types ≤ 3) × (kind ≡ 251 + length types)) × AllByRecursion FitsType types
FitsFar kind (Full locals stack) = (kind ≡ 255) × FitsCounted FitsType locals × FitsCounted FitsType stack

abbrev some_change : Change × List ℕ → Read Change
some_change x = Some x

-- one change that is read, with what is asked of it
module _ (kind : ℕ) (bytes : List ℕ) (c : Change) (rest : List ℕ) (fits : IsBytes bytes) where
  nothing_behind : (x : Change) → behind_delta x ≡ [] → FitsFar kind x → some_change (x, bytes) ≡ Some (c, rest) → Took behind_delta (FitsFar kind) bytes c rest
  nothing_behind x text fit h =
      let parts : bytes ≡ behind_delta x ++ bytes = ap (λ (b : List ℕ). b ++ bytes) (sym text) in
      subst (λ (y : Change × List ℕ). Took behind_delta (FitsFar kind) bytes y.0 y.1) (some_is (x, bytes) (c, rest) h) (record { parts = parts; rest_bytes = fits; fits = fit })

  -- of a codec of its own
  made_behind : {A : Type 0} (read : List ℕ → Read A) (spell : A → List ℕ) (Fit : A → Type 0) → Codec read spell Fit → (make : A → Change) → ((x : A) → behind_delta (make x) ≡ spell x) → ((x : A) → Fit x → FitsFar kind (make x)) → made make read bytes ≡ Some (c, rest) → Took behind_delta (FitsFar kind) bytes c rest
  made_behind {A} read spell Fit codec make text fit h =
      let a = bind_some (read bytes) (λ x. Some (make x.0, x.1)) (c, rest) h in
      let t = codec.takes bytes a.0.0 a.0.1 fits a.1 in
      let parts : bytes ≡ behind_delta (make a.0.0) ++ a.0.1 = t.parts ∙ ap (λ (b : List ℕ). b ++ a.0.1) (sym (text a.0.0)) in
      subst (λ (y : Change × List ℕ). Took behind_delta (FitsFar kind) bytes y.0 y.1) (some_is (make a.0.0, a.0.1) (c, rest) a.2) (record { parts = parts; rest_bytes = t.rest_bytes; fits = fit a.0.0 t.fits })

two_lists : Codec (pair_at (counted_at type_at) (counted_at type_at)) (λ (p : List WrittenType × List WrittenType). counted type_text p.0 ++ counted type_text p.1) (λ (p : List WrittenType × List WrittenType). FitsCounted FitsType p.0 × FitsCounted FitsType p.1)
two_lists =
    pair_codec (counted_at type_at) (counted_at type_at) (counted type_text) (counted type_text) (FitsCounted FitsType) (FitsCounted FitsType) (counted_codec type_at type_text FitsType type_codec) (counted_codec type_at type_text FitsType type_codec)

abbrev full_of : List WrittenType × List WrittenType → Change
full_of p = Full p.0 p.1

abbrev some_lists : (List WrittenType × List WrittenType) × List ℕ → Read (List WrittenType × List WrittenType)
some_lists x = Some x

full_is : (bytes : List ℕ) → full_at bytes ≡ made full_of (pair_at (counted_at type_at) (counted_at type_at)) bytes
unfolding full_at
full_is bytes = first (counted_at type_at bytes) where
  second : (locals : List WrittenType) (r : Read (List WrittenType)) → (r >>= λ stack. some_change (Full locals stack.0, stack.1)) ≡ ((r >>= λ b. some_lists ((locals, b.0), b.1)) >>= λ x. some_change (full_of x.0, x.1))
  second locals None = refl
  second locals (Some b) = refl

  first : (r : Read (List WrittenType))
      → (r >>= λ locals. counted_at type_at locals.1 >>= λ stack. some_change (Full locals.0 stack.0, stack.1)) ≡ ((r >>= λ a. counted_at type_at a.1 >>= λ b. some_lists ((a.0, b.0), b.1)) >>= λ x. some_change (full_of x.0, x.1))
  first None = refl
  first (Some a) = second a.0 (counted_at type_at a.1)

far_takes : (kind : ℕ) → 247 ≤ kind → kind < 256 → (bytes : List ℕ) (c : Change) (rest : List ℕ) → IsBytes bytes → far_at kind bytes ≡ Some (c, rest) → Took behind_delta (FitsFar kind) bytes c rest
unfolding far_at item_at append_at
far_takes kind low high bytes c rest fits h =
    on_eq kind 247 _ _ _ (λ is. made_behind kind bytes c rest fits type_at type_text FitsType type_codec SameItem (λ x. refl) (λ x f. (is, f)))
    (λ other. on_lt kind 251 _ _ _ (λ below. nothing_behind kind bytes c rest fits (Chop (251 - kind)) refl (chop_fits other below))
    (λ above. on_eq kind 251 _ _ _ (λ is. nothing_behind kind bytes c rest fits Same refl is)
    (λ more. on_eq kind 255 _ _ _ (λ is g. made_behind kind bytes c rest fits _ _ _ two_lists full_of (λ x. refl) (λ x f. (is, f.0, f.1)) (sym (full_is bytes) ∙ g))
    (λ fewer. made_behind kind bytes c rest fits _ _ _ (times_codec type_at type_text FitsType (kind - 251) type_codec) Append (λ x. refl) (λ x f. (append_fits above more fewer (length x) f.0, f.1)))))) h
  where
    chop_fits : (kind ≡ 247 → ⊥) → kind < 251 → (1 ≤ 251 - kind) × (251 - kind ≤ 3) × (kind + (251 - kind) ≡ 251)
    chop_fits other below = (omega arith, omega arith, omega arith)

    append_fits : 251 ≤ kind → (kind ≡ 251 → ⊥) → (kind ≡ 255 → ⊥) → (n : ℕ) → n ≡ kind - 251 → (1 ≤ n) × (n ≤ 3) × (kind ≡ 251 + n)
    append_fits above more fewer n e = (omega arith, omega arith, omega arith)

far_again : (kind : ℕ) (c : Change) (rest : List ℕ) → FitsFar kind c → far_at kind (behind_delta c ++ rest) ≡ Some (c, rest)
unfolding far_at item_at append_at given
far_again kind Same rest fits = ap (λ (k : ℕ). far_at k rest) fits
far_again kind (SameItem item) rest fits = ap (λ (k : ℕ). far_at k (type_text item ++ rest)) fits.0 ∙ ap (given SameItem) (type_again item rest fits.1)
far_again kind (Chop count) rest fits =
    let a : eqb kind 247 ≡ false = ne_eqb kind 247 (λ e. omega (arith, fits.1, fits.2)) in
    let b : ltb kind 251 ≡ true = lt-ltb kind 251 (omega (arith, fits.0, fits.2)) in
    let n : 251 - kind ≡ count = omega (arith, fits.2) in
    rw (a, b) (ap (λ (k : ℕ). some_change (Chop k, rest)) n)
far_again kind (Append types) rest fits =
    let a : eqb kind 247 ≡ false = ne_eqb kind 247 (λ e. omega (arith, fits.0.2)) in
    let b : ltb kind 251 ≡ false = le-ltb kind 251 (omega (arith, fits.0.2)) in
    let d : eqb kind 251 ≡ false = ne_eqb kind 251 (λ e. omega (arith, fits.0.0, fits.0.2)) in
    let e : eqb kind 255 ≡ false = ne_eqb kind 255 (λ e. omega (arith, fits.0.1, fits.0.2)) in
    let n : length types ≡ kind - 251 = omega (arith, fits.0.2) in
    rw (a, b, d, e) (ap (given Append) ((times_codec type_at type_text FitsType (kind - 251) type_codec).again types rest (n, fits.1)))
far_again kind (Full locals stack) rest fits =
    ap (λ (k : ℕ). far_at k ((counted type_text locals ++ counted type_text stack) ++ rest)) fits.0
    ∙ full_is ((counted type_text locals ++ counted type_text stack) ++ rest)
    ∙ ap (given full_of) (two_lists.again (locals, stack) rest (fits.1, fits.2))

far_bytes : (kind : ℕ) (c : Change) → FitsFar kind c → IsBytes (behind_delta c)
far_bytes kind Same fits = tt
far_bytes kind (SameItem item) fits = type_bytes item fits.1
far_bytes kind (Chop count) fits = tt
far_bytes kind (Append types) fits = (times_codec type_at type_text FitsType (length types) type_codec).bytes types (refl, fits.1)
far_bytes kind (Full locals stack) fits = two_lists.bytes (locals, stack) (fits.1, fits.2)

-- ---- a frame

far_text : (kind delta : ℕ) (c : Change) → 247 ≤ kind → FitsFar kind c → change_text kind delta c ≡ u2 delta ++ behind_delta c
far_text kind delta Same low fits = let e : leb kind 63 ≡ false = lt-leb kind 63 (omega arith) in rw e refl
far_text kind delta (SameItem item) low fits = let e : leb kind 127 ≡ false = lt-leb kind 127 (omega arith) in rw e refl
far_text kind delta (Chop count) low fits = refl
far_text kind delta (Append types) low fits = refl
far_text kind delta (Full locals stack) low fits = refl

far_fits : (kind delta : ℕ) (c : Change) → FitsFar kind c → Fits2 delta → FitsChange kind delta c
far_fits kind delta Same fits d = inr (fits, d)
far_fits kind delta (SameItem item) fits d = (inr (fits.0, d), fits.1)
far_fits kind delta (Chop count) fits d = (fits, d)
far_fits kind delta (Append types) fits d = (fits.0, d, fits.1)
far_fits kind delta (Full locals stack) fits d = (fits.0, d, fits.1, fits.2)

abbrev frame : ℕ → ℕ → Change → WrittenFrame
frame kind delta c = record { kind = kind; delta = delta; change = c }

abbrev some_frame : WrittenFrame × List ℕ → Read WrittenFrame
some_frame x = Some x

module _ (kind : ℕ) (bytes : List ℕ) (f : WrittenFrame) (rest : List ℕ) (fits : IsBytes bytes) where
  same_takes : kind < 64 → some_frame (frame kind kind Same, bytes) ≡ Some (f, rest) → Took frame_text FitsFrame (kind ∷ bytes) f rest
  same_takes lt h =
      let e : leb kind 63 ≡ true = le-leb kind 63 (omega arith) in
      let le : kind ≤ 63 = omega arith in
      let parts : kind ∷ bytes ≡ frame_text (frame kind kind Same) ++ bytes = rw e refl in
      subst (λ (y : WrittenFrame × List ℕ). Took frame_text FitsFrame (kind ∷ bytes) y.0 y.1) (some_is (frame kind kind Same, bytes) (f, rest) h) (record { parts = parts; rest_bytes = fits; fits = inl (le, refl) })

  item_takes : 64 ≤ kind → kind < 128 → changed kind (kind - 64) (made SameItem type_at bytes) ≡ Some (f, rest) → Took frame_text FitsFrame (kind ∷ bytes) f rest
  item_takes low high h =
      let a = bind_some (made SameItem type_at bytes) (λ c. some_frame (frame kind (kind - 64) c.0, c.1)) (f, rest) h in
      let b = bind_some (type_at bytes) (λ t. some_change (SameItem t.0, t.1)) a.0 a.1 in
      let t = type_takes bytes b.0.0 b.0.1 fits b.1 in
      let e : leb kind 127 ≡ true = le-leb kind 127 (omega arith) in
      let parts : kind ∷ bytes ≡ frame_text (frame kind (kind - 64) (SameItem b.0.0)) ++ b.0.1 = rw e (ap (λ (bs : List ℕ). kind ∷ bs) t.parts) in
      let le : kind ≤ 127 = omega arith in
      let sum : kind - 64 + 64 ≡ kind = omega arith in
      let made_of : (SameItem b.0.0, b.0.1) ≡ a.0 = some_is (SameItem b.0.0, b.0.1) a.0 b.2 in
      let frame_is : (frame kind (kind - 64) a.0.0, a.0.1) ≡ (f, rest) = some_is (frame kind (kind - 64) a.0.0, a.0.1) (f, rest) a.2 in
      let near = subst (λ (y : Change × List ℕ). Took frame_text FitsFrame (kind ∷ bytes) (frame kind (kind - 64) y.0) y.1) made_of (record { parts = parts; rest_bytes = t.rest_bytes; fits = (inl (low, le, sum), t.fits) }) in
      subst (λ (y : WrittenFrame × List ℕ). Took frame_text FitsFrame (kind ∷ bytes) y.0 y.1) frame_is near

  far_frame_takes : 247 ≤ kind → kind < 256 → (u2_at bytes >>= λ d. changed kind d.0 (far_at kind d.1)) ≡ Some (f, rest) → Took frame_text FitsFrame (kind ∷ bytes) f rest
  far_frame_takes low high h =
      let a = bind_some (u2_at bytes) (λ d. changed kind d.0 (far_at kind d.1)) (f, rest) h in
      let d = a.0.0 in
      let u = u2_codec.takes bytes d a.0.1 fits a.1 in
      let b = bind_some (far_at kind a.0.1) (λ c. some_frame (frame kind d c.0, c.1)) (f, rest) a.2 in
      let c = b.0.0 in
      let t = far_takes kind low high a.0.1 c b.0.1 u.rest_bytes b.1 in
      let text : u2 d ++ (behind_delta c ++ b.0.1) ≡ change_text kind d c ++ b.0.1 = sym (append_assoc (u2 d) (behind_delta c) b.0.1) ∙ ap (λ (bs : List ℕ). bs ++ b.0.1) (sym (far_text kind d c low t.fits)) in
      let parts : kind ∷ bytes ≡ frame_text (frame kind d c) ++ b.0.1 = ap (λ (bs : List ℕ). kind ∷ bs) (u.parts ∙ ap (λ (bs : List ℕ). u2 d ++ bs) t.parts ∙ text) in
      subst (λ (y : WrittenFrame × List ℕ). Took frame_text FitsFrame (kind ∷ bytes) y.0 y.1) (some_is (frame kind d c, b.0.1) (f, rest) b.2) (record { parts = parts; rest_bytes = t.rest_bytes; fits = far_fits kind d c t.fits u.fits })

frame_takes : (bytes : List ℕ) (f : WrittenFrame) (rest : List ℕ) → IsBytes bytes → frame_at bytes ≡ Some (f, rest) → Took frame_text FitsFrame bytes f rest
unfolding frame_at frame_by item_at
frame_takes [] f rest fits h = absurd cc
frame_takes (kind ∷ bytes) f rest fits h =
    on_lt kind 64 _ _ _ (λ below. same_takes kind bytes f rest fits.1 below)
    (λ from64. on_lt kind 128 _ _ _ (λ below. item_takes kind bytes f rest fits.1 from64 below)
    (λ from128. on_lt kind 247 _ _ _ (λ below. λ n. absurd cc)
    (λ from247. far_frame_takes kind bytes f rest fits.1 from247 fits.0))) h

far_frame_again : (kind delta : ℕ) (c : Change) (rest : List ℕ) → 247 ≤ kind → Fits2 delta → FitsFar kind c → frame_at ((u1 kind ++ change_text kind delta c) ++ rest) ≡ Some (frame kind delta c, rest)
unfolding frame_at frame_by
far_frame_again kind delta c rest low d fits =
    let text : change_text kind delta c ++ rest ≡ u2 delta ++ (behind_delta c ++ rest) = ap (λ (bs : List ℕ). bs ++ rest) (far_text kind delta c low fits) ∙ append_assoc (u2 delta) (behind_delta c) rest in
    let e : ltb kind 64 ≡ false = le-ltb kind 64 (omega arith) in
    let g : ltb kind 128 ≡ false = le-ltb kind 128 (omega arith) in
    let h : ltb kind 247 ≡ false = le-ltb kind 247 low in
    let far : frame_by kind (u2 delta ++ (behind_delta c ++ rest)) ≡ Some (frame kind delta c, rest) =
    rw (e, g, h) (ap (λ (r : Read ℕ). r >>= λ d. changed kind d.0 (far_at kind d.1)) (u2_codec.again delta (behind_delta c ++ rest) d) ∙ ap (changed kind delta) (far_again kind c rest fits)) in
    ap (frame_by kind) text ∙ far

change_again : (kind delta : ℕ) (c : Change) (rest : List ℕ) → FitsChange kind delta c → frame_at ((u1 kind ++ change_text kind delta c) ++ rest) ≡ Some (frame kind delta c, rest)
unfolding frame_at frame_by item_at given
change_again kind delta Same rest (inl fits) =
    let e : leb kind 63 ≡ true = le-leb kind 63 fits.0 in
    let g : ltb kind 64 ≡ true = lt-ltb kind 64 (omega (arith, fits.0)) in
    rw (e, g) (ap (λ (k : ℕ). some_frame (frame kind k Same, rest)) (sym fits.1))
change_again kind delta Same rest (inr fits) = far_frame_again kind delta Same rest (omega (arith, fits.0)) fits.1 fits.0
change_again kind delta (SameItem item) rest (inl fits, t) =
    let e : leb kind 127 ≡ true = le-leb kind 127 fits.1 in
    let g : ltb kind 64 ≡ false = le-ltb kind 64 fits.0 in
    let h : ltb kind 128 ≡ true = lt-ltb kind 128 (omega (arith, fits.1)) in
    let d : kind - 64 ≡ delta = omega (arith, fits.2) in
    rw (e, g, h) (ap (λ (r : Read WrittenType). changed kind (kind - 64) (given SameItem r)) (type_again item rest t) ∙ ap (λ (k : ℕ). some_frame (frame kind k (SameItem item), rest)) d)
change_again kind delta (SameItem item) rest (inr fits, t) = far_frame_again kind delta (SameItem item) rest (omega (arith, fits.0)) fits.1 (fits.0, t)
change_again kind delta (Chop count) rest fits = far_frame_again kind delta (Chop count) rest (omega (arith, fits.0.1, fits.0.2)) fits.1 fits.0
change_again kind delta (Append types) rest fits = far_frame_again kind delta (Append types) rest (omega (arith, fits.0.2)) fits.1 (fits.0, fits.2)
change_again kind delta (Full locals stack) rest fits = far_frame_again kind delta (Full locals stack) rest (omega (arith, fits.0)) fits.1 (fits.0, fits.2, fits.3)

far_frame_bytes : (kind delta : ℕ) (c : Change) → 247 ≤ kind → kind < 256 → Fits2 delta → FitsFar kind c → IsBytes (u1 kind ++ change_text kind delta c)
far_frame_bytes kind delta c low high d fits =
    (high, subst IsBytes (sym (far_text kind delta c low fits)) (append-IsBytes (u2 delta) (behind_delta c) (u2_codec.bytes delta d) (far_bytes kind c fits)))

change_bytes : (kind delta : ℕ) (c : Change) → FitsChange kind delta c → IsBytes (u1 kind ++ change_text kind delta c)
change_bytes kind delta Same (inl fits) =
    let e : leb kind 63 ≡ true = le-leb kind 63 fits.0 in
    rw e (omega (arith, fits.0), tt)
change_bytes kind delta Same (inr fits) = far_frame_bytes kind delta Same (omega (arith, fits.0)) (omega (arith, fits.0)) fits.1 fits.0
change_bytes kind delta (SameItem item) (inl fits, t) =
    let e : leb kind 127 ≡ true = le-leb kind 127 fits.1 in
    rw e (omega (arith, fits.1), type_bytes item t)
change_bytes kind delta (SameItem item) (inr fits, t) = far_frame_bytes kind delta (SameItem item) (omega (arith, fits.0)) (omega (arith, fits.0)) fits.1 (fits.0, t)
change_bytes kind delta (Chop count) fits = far_frame_bytes kind delta (Chop count) (omega (arith, fits.0.1, fits.0.2)) (omega (arith, fits.0.0, fits.0.2)) fits.1 fits.0
change_bytes kind delta (Append types) fits = far_frame_bytes kind delta (Append types) (omega (arith, fits.0.2)) (omega (arith, fits.0.1, fits.0.2)) fits.1 (fits.0, fits.2)
change_bytes kind delta (Full locals stack) fits = far_frame_bytes kind delta (Full locals stack) (omega (arith, fits.0)) (omega (arith, fits.0)) fits.1 (fits.0, fits.2, fits.3)

frame_codec : Codec frame_at frame_text FitsFrame
frame_codec = record { takes = frame_takes; again = λ f rest fits. change_again f.kind f.delta f.change rest fits; bytes = λ f fits. change_bytes f.kind f.delta f.change fits }

-- ---- the table

table_codec : Codec (counted_at frame_at) table_text FitsTable
table_codec = counted_codec frame_at frame_text FitsFrame frame_codec

pub tables_are_spelled : (bytes : List ℕ) → IsBytes bytes → TablesAreSpelled bytes
unfolding table_of
tables_are_spelled bytes fits frames = (
  λ h. let t = table_codec.takes bytes frames [] fits (all_read_is (counted_at frame_at bytes) frames h) in (t.parts ∙ append-nil (table_text frames), t.fits),
  λ h. ap (λ (b : List ℕ). all_read (counted_at frame_at b)) (h.0 ∙ sym (append-nil (table_text frames))) ∙ ap all_read (table_codec.again frames [] h.1),
)

-- At most 65,535 frames are read.
pub few_frames : (bytes : List ℕ) (frames : List WrittenFrame) (rest : List ℕ) → IsBytes bytes → counted_at frame_at bytes ≡ Some (frames, rest) → length frames < 65536
few_frames bytes frames rest fits h = (table_codec.takes bytes frames rest fits h).fits.0
