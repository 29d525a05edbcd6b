-- What the header's tests, the digest behind it and the layer say of the bytes.
use Rattle.std.proofs.Common.{◌≡◌, ℕ, ◌≤◌, Bool, true, false, not, cond, eqb, ltb, List, length, Option, Ok, Err, refl, sym, ap, subst, ◌∙◌, inl, inr}
use Rattle.std.specs.Prelude.{Result}
use Rattle.std.specs.Str.{bytes_eq}
use Rattle.std.proofs.lemmas.Bool.{ltb-false, eqb-true}
use Rattle.std.proofs.lemmas.Slice.Eq.{bytes_eq-Decides}
use Rattle.archive_header.specs.declared.header.TheConstants.{FORMAT}
use Rattle.archive_header.specs.declared.header.Header.{Header}
use Rattle.archive_header.specs.declared.folders.Folders.{Folders}
use Rattle.archive_header.specs.declared.refuse.Refuse.{Refuse}
use Rattle.archive_header.specs.declared.refuse.Refuse.TheVariants.{Digest, Layer}
use Rattle.archive_header.specs.Header.{magic, field, number, header_in, kept_digest, found_digest, header_of}
use Rattle.archive_mapper.specs.Mapping.{body_digest, no_lower, StandsAlone, HasOtherBody, HasOtherLayer, Maps}
use Rattle.archive_mapper.specs.Fronts.{tested, tested_if_read, front_of}

abbrev Answer : Type 0
Answer = Result Header Refuse

-- ---- chains of tests

-- a header was answered: each test held
header_answered : (a b c d : Bool) (e f g h : Refuse) (x y : Header) → ◌≡◌ {A = Answer} (cond a (Err e) (cond (not b) (Err f) (cond (not c) (Err g) (cond (not d) (Err h) (Ok x))))) (Ok y) → (a ≡ false) × ((c ≡ true) × (x ≡ y))
header_answered true b c d e f g h x y is = absurd cc
header_answered false false c d e f g h x y is = absurd cc
header_answered false true false d e f g h x y is = absurd cc
header_answered false true true false e f g h x y is = absurd cc
header_answered false true true true e f g h x y is = (refl, (refl, cc))

-- a refusal was answered: it is one of the four
one_answered : (P : Refuse → Type 0) (a b c d : Bool) (e f g h : Refuse) (x : Header) (r : Refuse) → ◌≡◌ {A = Answer} (cond a (Err e) (cond (not b) (Err f) (cond (not c) (Err g) (cond (not d) (Err h) (Ok x))))) (Err r) → P e → P f → P g → P h → P r
one_answered P true b c d e f g h x r is pe pf pg ph = let s : e ≡ r = cc in subst P s pe
one_answered P false false c d e f g h x r is pe pf pg ph = let s : f ≡ r = cc in subst P s pf
one_answered P false true false d e f g h x r is pe pf pg ph = let s : g ≡ r = cc in subst P s pg
one_answered P false true true false e f g h x r is pe pf pg ph = let s : h ≡ r = cc in subst P s ph
one_answered P false true true true e f g h x r is pe pf pg ph = absurd cc

both_passed : (a b : Bool) (e f : Refuse) (x y : Header) → ◌≡◌ {A = Answer} (cond (not a) (Err e) (cond (not b) (Err f) (Ok x))) (Ok y) → (a ≡ true) × ((b ≡ true) × (x ≡ y))
both_passed false b e f x y is = absurd cc
both_passed true false e f x y is = absurd cc
both_passed true true e f x y is = (refl, (refl, cc))

one_failed : (P : Refuse → Type 0) (a b : Bool) (e f : Refuse) (x : Header) (r : Refuse) → ◌≡◌ {A = Answer} (cond (not a) (Err e) (cond (not b) (Err f) (Ok x))) (Err r) → (a ≡ false → P e) → (a ≡ true → b ≡ false → P f) → P r
one_failed P false b e f x r is pe pf = let s : e ≡ r = cc in subst P s (pe refl)
one_failed P true false e f x r is pe pf = let s : f ≡ r = cc in subst P s (pf refl refl)
one_failed P true true e f x r is pe pf = absurd cc

passed : (a b : Bool) (e f : Refuse) (x : Header) → a ≡ true → b ≡ true → ◌≡◌ {A = Answer} (cond (not a) (Err e) (cond (not b) (Err f) (Ok x))) (Ok x)
passed a b e f x h k = rw (h, k) refl

failed_first : (a b : Bool) (e f : Refuse) (x : Header) → a ≡ false → ◌≡◌ {A = Answer} (cond (not a) (Err e) (cond (not b) (Err f) (Ok x))) (Err e)
failed_first a b e f x h = rw h refl

failed_second : (a b : Bool) (e f : Refuse) (x : Header) → a ≡ true → b ≡ false → ◌≡◌ {A = Answer} (cond (not a) (Err e) (cond (not b) (Err f) (Ok x))) (Err f)
failed_second a b e f x h k = rw (h, k) refl

-- ---- equal lists of bytes, as a test

pub same_bytes : (a b : List ℕ) → bytes_eq a b ≡ true → a ≡ b
same_bytes a b h = (bytes_eq-Decides a b).0 h

pub bytes_same : (a b : List ℕ) → a ≡ b → bytes_eq a b ≡ true
bytes_same a b h = (bytes_eq-Decides a b).1 h

other_bytes : (a b : List ℕ) → bytes_eq a b ≡ false → a ≡ b → ⊥
other_bytes a b h e = let t : bytes_eq a b ≡ true = bytes_same a b e in absurd cc

bytes_other : (a b : List ℕ) → (a ≡ b → ⊥) → bytes_eq a b ≡ false
bytes_other a b h = elim (bytes_eq a b) as (λ v. bytes_eq a b ≡ v → v ≡ false) [ true ↦ λ e. absurd (h (same_bytes a b e)) | false ↦ λ e. refl ] refl

-- ---- the header

-- A header was read: there are 256 bytes, and its format is the one that is read.
pub header_read : (bytes : List ℕ) (h : Header) → header_of bytes ≡ Ok h → (256 ≤ length bytes) × (h.format ≡ FORMAT)
unfolding header_of header_in
header_read bytes h is =
    let t = header_answered (ltb (length bytes) 256) (bytes_eq (field 0 8 bytes) magic) (eqb (number (field 8 4 bytes)) FORMAT) (bytes_eq (kept_digest bytes) (found_digest bytes)) _ _ _ _ (header_in bytes) h is in
    (ltb-false (length bytes) 256 t.0, sym (ap (λ (x : Header). x.format) t.1.1) ∙ eqb-true (number (field 8 4 bytes)) FORMAT t.1.0)

header_refused : (bytes : List ℕ) (now : Option Folders) (r : Refuse) → header_of bytes ≡ Err r → Maps bytes now (Err r)
unfolding header_of
header_refused bytes now r is =
    one_answered (λ r. header_of bytes ≡ Err r → Maps bytes now (Err r)) (ltb (length bytes) 256) (bytes_eq (field 0 8 bytes) magic) (eqb (number (field 8 4 bytes)) FORMAT) (bytes_eq (kept_digest bytes) (found_digest bytes)) _ _ _ _ (header_in bytes) r is
    (λ e. e) (λ e. e) (λ e. e) (λ e. inl e) is

-- ---- the front

tested_alone : (bytes : List ℕ) (g h : Header) → header_of bytes ≡ Ok g → tested bytes g ≡ Ok h → StandsAlone bytes h
unfolding tested
tested_alone bytes g h read is =
    let t = both_passed (bytes_eq g.body_digest (body_digest bytes)) (bytes_eq g.lower no_lower) _ _ g h is in
    subst (StandsAlone bytes) t.1.1 (record { whole = record { read = read; body = same_bytes g.body_digest (body_digest bytes) t.0 }; lower = same_bytes g.lower no_lower t.1.0 })

alone_by : (bytes : List ℕ) (h : Header) (r : Answer) → header_of bytes ≡ r → tested_if_read bytes r ≡ Ok h → StandsAlone bytes h
alone_by bytes h (Ok g) read is = tested_alone bytes g h read is
alone_by bytes h (Err refuse) read is = absurd cc

-- What the front of an archive is, where no refusal before Malformed holds.
pub front_alone : (bytes : List ℕ) (h : Header) → front_of bytes ≡ Ok h → StandsAlone bytes h
unfolding front_of
front_alone bytes h is = alone_by bytes h (header_of bytes) refl is

pub front_long : (bytes : List ℕ) (h : Header) → front_of bytes ≡ Ok h → 256 ≤ length bytes
front_long bytes h is = (header_read bytes h (front_alone bytes h is).whole.read).0

tested_refused : (bytes : List ℕ) (now : Option Folders) (g : Header) (r : Refuse) → header_of bytes ≡ Ok g → tested bytes g ≡ Err r → Maps bytes now (Err r)
unfolding tested
tested_refused bytes now g r read is =
    one_failed (λ r. Maps bytes now (Err r)) (bytes_eq g.body_digest (body_digest bytes)) (bytes_eq g.lower no_lower) (Digest g.body_digest (body_digest bytes)) (Layer g.lower no_lower) g r is
    (λ e. inr (record { header = g; read = read; kept_is = refl; found_is = refl; other = other_bytes g.body_digest (body_digest bytes) e }))
    (λ d e. record { header = g; whole = record { read = read; body = same_bytes g.body_digest (body_digest bytes) d }; kept_is = refl; found_is = refl; other = other_bytes g.lower no_lower e })

refused_by : (bytes : List ℕ) (now : Option Folders) (r : Refuse) (a : Answer) → header_of bytes ≡ a → tested_if_read bytes a ≡ Err r → Maps bytes now (Err r)
refused_by bytes now r (Ok g) read is = tested_refused bytes now g r read is
refused_by bytes now r (Err refuse) read is = let same : refuse ≡ r = cc in header_refused bytes now r (read ∙ ap (λ (x : Refuse). Err x) same)

-- The front's refusal is the one that holds.
pub front_refused : (bytes : List ℕ) (now : Option Folders) (r : Refuse) → front_of bytes ≡ Err r → Maps bytes now (Err r)
unfolding front_of
front_refused bytes now r is = refused_by bytes now r (header_of bytes) refl is

-- ---- the way back

pub header_first : (bytes : List ℕ) (r : Refuse) → header_of bytes ≡ Err r → front_of bytes ≡ Err r
unfolding front_of
header_first bytes r is = ap (tested_if_read bytes) is

pub alone_first : (bytes : List ℕ) (h : Header) → StandsAlone bytes h → front_of bytes ≡ Ok h
unfolding front_of tested
alone_first bytes h is =
    ap (tested_if_read bytes) is.whole.read
    ∙ passed (bytes_eq h.body_digest (body_digest bytes)) (bytes_eq h.lower no_lower) _ _ h (bytes_same h.body_digest (body_digest bytes) is.whole.body) (bytes_same h.lower no_lower is.lower)

pub body_first : (bytes kept found : List ℕ) → HasOtherBody bytes kept found → front_of bytes ≡ Err (Digest kept found)
unfolding front_of tested
body_first bytes kept found is =
    let h = is.header in
    let other : bytes_eq h.body_digest (body_digest bytes) ≡ false = bytes_other h.body_digest (body_digest bytes) (λ e. is.other (is.kept_is ∙ e ∙ sym is.found_is)) in
    ap (tested_if_read bytes) is.read
    ∙ failed_first (bytes_eq h.body_digest (body_digest bytes)) (bytes_eq h.lower no_lower) (Digest h.body_digest (body_digest bytes)) _ h other
    ∙ digests h.body_digest (body_digest bytes) kept found (sym is.kept_is) (sym is.found_is)
  where
    digests : (a b c d : List ℕ) → a ≡ c → b ≡ d → ◌≡◌ {A = Answer} (Err (Digest a b)) (Err (Digest c d))
    digests a b c d e f = rw (e, f) refl

pub layer_first : (bytes kept found : List ℕ) → HasOtherLayer bytes kept found → front_of bytes ≡ Err (Layer kept found)
unfolding front_of tested
layer_first bytes kept found is =
    let h = is.header in
    let other : bytes_eq h.lower no_lower ≡ false = bytes_other h.lower no_lower (λ e. is.other (is.kept_is ∙ e ∙ sym is.found_is)) in
    ap (tested_if_read bytes) is.whole.read
    ∙ failed_second (bytes_eq h.body_digest (body_digest bytes)) (bytes_eq h.lower no_lower) _ (Layer h.lower no_lower) h (bytes_same h.body_digest (body_digest bytes) is.whole.body) other
    ∙ layers h.lower no_lower kept found (sym is.kept_is) (sym is.found_is)
  where
    layers : (a b c d : List ℕ) → a ≡ c → b ≡ d → ◌≡◌ {A = Answer} (Err (Layer a b)) (Err (Layer c d))
    layers a b c d e f = rw (e, f) refl
