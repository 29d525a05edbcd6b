-- What is written as a header is read again.
use Rattle.std.proofs.Common.{◌≡◌, ℕ, ◌+◌, ◌*◌, ◌/◌, ◌%◌, ◌<◌, ◌≤◌, ◌^◌, Bool, true, false, not, cond, eqb, ltb, List, [], ◌++◌, length, take, drop, replicate, Ok, Err, refl, ap, ◌∙◌, append_assoc, arith}
use Rattle.std.proofs.lemmas.Bool.{le-ltb, eq-eqb}
use Rattle.std.proofs.lemmas.Slice.Eq.{bytes_eq-Decides}
use Rattle.std.proofs.lemmas.List.{take_at, drop_at, length-append}
use Rattle.std.specs.Str.{bytes_eq}
use Rattle.sha2.specs.Sha256.{sha256}
use Rattle.sha2.proofs.Facts256.{length-sha256}
use Rattle.jsa_base.specs.LowFirst.{low_u4, low_u8}
use Rattle.archive_header.specs.declared.header.TheConstants.{FORMAT}
use Rattle.archive_header.specs.declared.header.Header.{Header}
use Rattle.archive_header.specs.declared.refuse.Refuse.TheVariants.{Short, Magic, Version, Digest}
use Rattle.archive_header.specs.Header.{magic, numbers, fields, header_bytes, FitsHeader, field, number, header_in, kept_digest, found_digest, header_of, HeadersAreReadAgain}

pub joined : (o a b c d e f g h i : List ℕ) → ((((((((o ++ a) ++ b) ++ c) ++ d) ++ e) ++ f) ++ g) ++ h) ++ i ≡ o ++ (a ++ (b ++ (c ++ (d ++ (e ++ (f ++ (g ++ (h ++ i))))))))
joined o a b c d e f g h i = simp append_assoc

joined_fields : (a b c d e b0 b1 b2 b3 b4 b5 : List ℕ) → b0 ≡ [] → b1 ≡ b0 ++ a → b2 ≡ b1 ++ b → b3 ≡ b2 ++ c → b4 ≡ b3 ++ d → b5 ≡ b4 ++ e → b5 ≡ (((a ++ b) ++ c) ++ d) ++ e
joined_fields a b c d e b0 b1 b2 b3 b4 b5 e0 e1 e2 e3 e4 e5 = rw (e5, e4, e3, e2, e1, e0) refl

-- the bytes so far, field by field
pub fields_are : (h : Header) (b0 b1 b2 b3 b4 b5 : List ℕ) → b0 ≡ [] → b1 ≡ b0 ++ magic → b2 ≡ b1 ++ numbers h → b3 ≡ b2 ++ h.lower → b4 ≡ b3 ++ h.body_digest → b5 ≡ b4 ++ replicate 88 0 → b5 ≡ fields h
unfolding fields
fields_are h b0 b1 b2 b3 b4 b5 e0 e1 e2 e3 e4 e5 = joined_fields magic (numbers h) h.lower h.body_digest (replicate 88 0) b0 b1 b2 b3 b4 b5 e0 e1 e2 e3 e4 e5

-- ---- numbers

number-low_u4 : (n : ℕ) → n < 2 ^ 32 → number (low_u4 n) ≡ n
number-low_u4 n fits = omega arith

number-low_u8 : (n : ℕ) → n < 2 ^ 64 → number (low_u8 n) ≡ n
number-low_u8 n fits =
    let l : n % 0x1_0000_0000 < 2 ^ 32 = omega arith in
    let h : n / 0x1_0000_0000 < 2 ^ 32 = omega arith in
    let low = number-low_u4 (n % 0x1_0000_0000) l in
    let high = number-low_u4 (n / 0x1_0000_0000) h in
    let both : n % 0x1_0000_0000 + 0x1_0000_0000 * (n / 0x1_0000_0000) ≡ n = omega arith in
    joins (n % 0x1_0000_0000 % 256) (n % 0x1_0000_0000 / 256 % 256) (n % 0x1_0000_0000 / 65536 % 256) (n % 0x1_0000_0000 / 16777216 % 256) (number (low_u4 (n / 0x1_0000_0000))) (n % 0x1_0000_0000) low ∙ ap (λ (k : ℕ). n % 0x1_0000_0000 + 0x1_0000_0000 * k) high ∙ both
  where
    joins : (a b c d rest l : ℕ) → a + 256 * (b + 256 * (c + 256 * (d + 256 * 0))) ≡ l → a + 256 * (b + 256 * (c + 256 * (d + 256 * rest))) ≡ l + 0x1_0000_0000 * rest
    joins a b c d rest l e = omega arith

-- ---- places

-- the places of the fields behind the numbers
at_72 : (l d z s rest : List ℕ) → length l ≡ 32 → take 32 ((((l ++ d) ++ z) ++ s) ++ rest) ≡ l
at_72 l d z s rest e =
    let regrouped : (((l ++ d) ++ z) ++ s) ++ rest ≡ l ++ (d ++ (z ++ (s ++ rest))) = simp append_assoc in
    ap (take 32) regrouped ∙ take_at l (d ++ (z ++ (s ++ rest))) 32 e

at_104 : (l d z s rest : List ℕ) → length l ≡ 32 → length d ≡ 32 → take 32 (drop 32 ((((l ++ d) ++ z) ++ s) ++ rest)) ≡ d
at_104 l d z s rest e f =
    let regrouped : (((l ++ d) ++ z) ++ s) ++ rest ≡ l ++ (d ++ (z ++ (s ++ rest))) = simp append_assoc in
    ap (λ (b : List ℕ). take 32 (drop 32 b)) regrouped
    ∙ ap (take 32) (drop_at l (d ++ (z ++ (s ++ rest))) 32 e)
    ∙ take_at d (z ++ (s ++ rest)) 32 f

behind : (l d : List ℕ) → length l ≡ 32 → length d ≡ 32 → length ((l ++ d) ++ replicate 88 0) ≡ 152
behind l d e f = omega (arith, length-append (l ++ d) (replicate {A = ℕ} 88 0), length-append l d, e, f)

length-fields : (h : Header) → FitsHeader h → length (fields h) ≡ 224
unfolding fields
length-fields h fits = let e = behind h.lower h.body_digest fits.lower fits.body_digest in omega (arith, e)

header_is : (h : Header) (format base rw_size ro_size bitmap_size manifest_size classes root : ℕ) (lower body_digest : List ℕ)
    → format ≡ h.format → base ≡ h.base → rw_size ≡ h.rw_size → ro_size ≡ h.ro_size → bitmap_size ≡ h.bitmap_size → manifest_size ≡ h.manifest_size → classes ≡ h.classes → root ≡ h.root → lower ≡ h.lower → body_digest ≡ h.body_digest
    → (record { format = format; base = base; rw_size = rw_size; ro_size = ro_size; bitmap_size = bitmap_size; manifest_size = manifest_size; classes = classes; root = root; lower = lower; body_digest = body_digest }) ≡ h
header_is h format base rw_size ro_size bitmap_size manifest_size classes root lower body_digest e0 e1 e2 e3 e4 e5 e6 e7 e8 e9 = rw (e0, e1, e2, e3, e4, e5, e6, e7, e8, e9) refl

read_in : (h : Header) (rest : List ℕ) → FitsHeader h → header_in (header_bytes h ++ rest) ≡ h
unfolding fields header_in
read_in h rest fits = header_is h _ _ _ _ _ _ _ _ _ _
    (number-low_u4 h.format fits.format)
    (number-low_u8 h.base fits.base)
    (number-low_u8 h.rw_size fits.rw_size)
    (number-low_u8 h.ro_size fits.ro_size)
    (number-low_u8 h.bitmap_size fits.bitmap_size)
    (number-low_u8 h.manifest_size fits.manifest_size)
    (number-low_u8 h.classes fits.classes)
    (number-low_u8 h.root fits.root)
    (at_72 h.lower h.body_digest (replicate 88 0) (sha256 (fields h)) rest fits.lower)
    (at_104 h.lower h.body_digest (replicate 88 0) (sha256 (fields h)) rest fits.lower fits.body_digest)

-- ---- the tests

-- tests that hold, one after the other
passed : {A : Type 0} (a b c d : Bool) (short other_magic other_format other_digest x : A) → a ≡ false → b ≡ true → c ≡ true → d ≡ true
    → cond a short (cond (not b) other_magic (cond (not c) other_format (cond (not d) other_digest x))) ≡ x
passed a b c d short other_magic other_format other_digest x e f g h = rw (e, f, g, h) refl

bytes_eq-refl : (a : List ℕ) → bytes_eq a a ≡ true
bytes_eq-refl a = (bytes_eq-Decides a a).1 refl

first_8 : (h : Header) (rest : List ℕ) → field 0 8 (header_bytes h ++ rest) ≡ magic
unfolding fields
first_8 h rest = refl

format_is : (h : Header) (rest : List ℕ) → FitsHeader h → number (field 8 4 (header_bytes h ++ rest)) ≡ h.format
unfolding fields
format_is h rest fits = number-low_u4 h.format fits.format

found_is : (h : Header) (rest : List ℕ) → FitsHeader h → take 224 (header_bytes h ++ rest) ≡ fields h
found_is h rest fits =
    ap (take 224) (append_assoc (fields h) (sha256 (fields h)) rest) ∙ take_at (fields h) (sha256 (fields h) ++ rest) 224 (length-fields h fits)

kept_is : (h : Header) (rest : List ℕ) → FitsHeader h → kept_digest (header_bytes h ++ rest) ≡ sha256 (fields h)
kept_is h rest fits =
    ap (λ (b : List ℕ). take 32 (drop 224 b)) (append_assoc (fields h) (sha256 (fields h)) rest)
    ∙ ap (take 32) (drop_at (fields h) (sha256 (fields h) ++ rest) 224 (length-fields h fits))
    ∙ take_at (sha256 (fields h)) rest 32 (length-sha256 (fields h))

long_enough : (h : Header) (rest : List ℕ) → FitsHeader h → 256 ≤ length (header_bytes h ++ rest)
long_enough h rest fits = omega (arith, length-append (header_bytes h) rest, length-append (fields h) (sha256 (fields h)), length-fields h fits, length-sha256 (fields h))

pub read_again : HeadersAreReadAgain
unfolding header_of
read_again h rest fits is =
    let all = header_bytes h ++ rest in
    let kept = kept_digest all in
    let found = found_digest all in
    passed (ltb (length all) 256) (bytes_eq (field 0 8 all) magic) (eqb (number (field 8 4 all)) FORMAT) (bytes_eq kept found) (Err Short) (Err Magic) (Err (Version (number (field 8 4 all)))) (Err (Digest kept found)) (Ok (header_in all))
    (le-ltb _ _ (long_enough h rest fits))
    (ap (λ (b : List ℕ). bytes_eq b magic) (first_8 h rest) ∙ bytes_eq-refl magic)
    (eq-eqb (number (field 8 4 all)) FORMAT (format_is h rest fits ∙ is))
    (ap (λ (b : List ℕ). bytes_eq b found) (kept_is h rest fits) ∙ ap (λ (b : List ℕ). bytes_eq (sha256 (fields h)) (sha256 b)) (found_is h rest fits) ∙ bytes_eq-refl (sha256 (fields h)))
    ∙ ap (λ (x : Header). Ok x) (read_in h rest fits)
