-- What the tests of a plain archive's numbers, regions and header bytes say of the bytes.
use Rattle.std.proofs.Common.{◌≡◌, ℕ, ◌+◌, ◌-◌, ◌≤◌, true, ◌&&◌, eqb, leb, List, ◌++◌, length, take, drop, replicate, Ok, refl, sym, ap, ◌∙◌, arith}
use Rattle.std.proofs.lemmas.Bool.{eqb-true, eq-eqb, leb-true, le-leb, and_from, and_parts}
use Rattle.std.proofs.lemmas.List.{take_at, drop_at, take-append-drop, length-append, length-take-le, length-drop}
use Rattle.sha2.specs.Sha256.{sha256}
use Rattle.sha2.proofs.Facts256.{length-sha256}
use Rattle.archive_header.specs.declared.header.Header.{Header}
use Rattle.archive_header.specs.Header.{fields, header_bytes, FitsHeader, header_of}
use Rattle.archive_header.proofs.Headers.{read_again}
use Rattle.plain_classes.specs.Archives.{header_for}
use Rattle.archive_mapper.specs.Mapping.{body_digest, StandsAlone}
use Rattle.archive_mapper.specs.Fronts.{front_of, has_plain_numbers, has_whole_regions, has_its_bytes, is_plain}
use Rattle.archive_mapper.proofs.Fronts.{same_bytes, bytes_same, header_read, front_alone, alone_first}

-- ---- the regions

-- The bytes behind the header are the two regions.
pub record Regions (bytes : List ℕ) (h : Header) (ro manifest : List ℕ) : Type 0 where
  pub ro_is : ro ≡ take h.ro_size (drop 256 bytes)
  pub manifest_is : manifest ≡ drop h.ro_size (drop 256 bytes)

behind : (l d : List ℕ) → length l ≡ 32 → length d ≡ 32 → length ((l ++ d) ++ replicate 88 0) ≡ 152
behind l d e f = omega (arith, length-append (l ++ d) (replicate {A = ℕ} 88 0), length-append l d, e, f)

length-fields : (h : Header) → FitsHeader h → length (fields h) ≡ 224
unfolding fields
length-fields h fits = let e = behind h.lower h.body_digest fits.lower fits.body_digest in omega (arith, e)

length-header : (h : Header) → FitsHeader h → length (header_bytes h) ≡ 256
length-header h fits = omega (arith, length-append (fields h) (sha256 (fields h)), length-fields h fits, length-sha256 (fields h))

-- ---- what the tests say

numbers_are : (h : Header) → has_plain_numbers h ≡ true → (h.base ≡ 0x8_0000_0000) × ((h.rw_size ≡ 0) × ((h.bitmap_size ≡ 0) × (h.root ≡ 0)))
unfolding has_plain_numbers
numbers_are h is =
    let a = and_parts (eqb h.base 0x8_0000_0000 && eqb h.rw_size 0 && eqb h.bitmap_size 0) (eqb h.root 0) is in
    let b = and_parts (eqb h.base 0x8_0000_0000 && eqb h.rw_size 0) (eqb h.bitmap_size 0) a.0 in
    let c = and_parts (eqb h.base 0x8_0000_0000) (eqb h.rw_size 0) b.0 in
    (eqb-true h.base 0x8_0000_0000 c.0, (eqb-true h.rw_size 0 c.1, (eqb-true h.bitmap_size 0 b.1, eqb-true h.root 0 a.1)))

regions_are : (bytes : List ℕ) (h : Header) → has_whole_regions bytes h ≡ true → (h.ro_size ≤ length bytes - 256) × (h.manifest_size ≡ length bytes - 256 - h.ro_size)
unfolding has_whole_regions
regions_are bytes h is =
    let a = and_parts (leb h.ro_size (length bytes - 256)) (eqb h.manifest_size (length bytes - 256 - h.ro_size)) is in
    (leb-true h.ro_size (length bytes - 256) a.0, eqb-true h.manifest_size (length bytes - 256 - h.ro_size) a.1)

bytes_are : (bytes : List ℕ) (h : Header) → has_its_bytes bytes h ≡ true → take 256 bytes ≡ header_bytes h
unfolding has_its_bytes
bytes_are bytes h is = same_bytes (take 256 bytes) (header_bytes h) is

-- Each of the tests held.
record Held (bytes : List ℕ) (h : Header) : Type 0 where
  pub numbers : has_plain_numbers h ≡ true
  pub regions : has_whole_regions bytes h ≡ true
  pub bytes_is : has_its_bytes bytes h ≡ true

held : (bytes : List ℕ) (h : Header) → is_plain bytes h ≡ true → Held bytes h
unfolding is_plain
held bytes h is =
    let a = and_parts (has_its_bytes bytes h && has_plain_numbers h) (has_whole_regions bytes h) is in
    let b = and_parts (has_its_bytes bytes h) (has_plain_numbers h) a.0 in
    record { numbers = b.1; regions = a.1; bytes_is = b.0 }

pub region_fits : (bytes : List ℕ) (h : Header) → is_plain bytes h ≡ true → h.ro_size ≤ length (drop 256 bytes)
region_fits bytes h is = let r = regions_are bytes h (held bytes h is).regions in omega (arith, length-drop 256 bytes, r.0)

header_is : (h : Header) (format base rw_size ro_size bitmap_size manifest_size classes root : ℕ) (lower body_digest : List ℕ)
    → h.format ≡ format → h.base ≡ base → h.rw_size ≡ rw_size → h.ro_size ≡ ro_size → h.bitmap_size ≡ bitmap_size → h.manifest_size ≡ manifest_size → h.classes ≡ classes → h.root ≡ root → h.lower ≡ lower → h.body_digest ≡ body_digest
    → h ≡ record { format = format; base = base; rw_size = rw_size; ro_size = ro_size; bitmap_size = bitmap_size; manifest_size = manifest_size; classes = classes; root = root; lower = lower; body_digest = body_digest }
header_is h format base rw_size ro_size bitmap_size manifest_size classes root lower body_digest e0 e1 e2 e3 e4 e5 e6 e7 e8 e9 =
    rw (sym e0, sym e1, sym e2, sym e3, sym e4, sym e5, sym e6, sym e7, sym e8, sym e9) refl

-- The header is the one for the two regions.
pub header_is_for : (bytes : List ℕ) (h : Header) (ro manifest : List ℕ) → front_of bytes ≡ Ok h → is_plain bytes h ≡ true → Regions bytes h ro manifest → h ≡ header_for ro manifest h.classes
header_is_for bytes h ro manifest front is regions =
    let alone = front_alone bytes h front in
    let all = held bytes h is in
    let n = numbers_are h all.numbers in
    let r = regions_are bytes h all.regions in
    let body = drop 256 bytes in
    let ro_size : h.ro_size ≡ length ro = sym (ap length regions.ro_is ∙ length-take-le h.ro_size body (region_fits bytes h is)) in
    let manifest_size : h.manifest_size ≡ length manifest = r.1 ∙ sym (ap length regions.manifest_is ∙ length-drop h.ro_size body ∙ ap (λ (k : ℕ). k - h.ro_size) (length-drop 256 bytes)) in
    let whole : body ≡ ro ++ manifest = sym (take-append-drop h.ro_size body) ∙ sym (joined regions) in
    header_is h 0 0x8_0000_0000 0 (length ro) 0 (length manifest) h.classes 0 (replicate 32 0) (sha256 (ro ++ manifest))
    (header_read bytes h alone.whole.read).1 n.0 n.1.0 ro_size n.1.1.0 manifest_size refl n.1.1.1 alone.lower (alone.whole.body ∙ ap sha256 whole)
  where
    joined : Regions bytes h ro manifest → ro ++ manifest ≡ take h.ro_size (drop 256 bytes) ++ drop h.ro_size (drop 256 bytes)
    joined g = rw (g.ro_is, g.manifest_is) refl

-- The bytes are the header's and the two regions.
pub bytes_are_for : (bytes : List ℕ) (h : Header) (ro manifest : List ℕ) → front_of bytes ≡ Ok h → is_plain bytes h ≡ true → Regions bytes h ro manifest → bytes ≡ header_bytes (header_for ro manifest h.classes) ++ (ro ++ manifest)
bytes_are_for bytes h ro manifest front is regions =
    let body = drop 256 bytes in
    let whole : body ≡ ro ++ manifest = sym (take-append-drop h.ro_size body) ∙ sym (joined regions) in
    sym (take-append-drop 256 bytes)
    ∙ ap (λ (b : List ℕ). b ++ drop 256 bytes) (bytes_are bytes h (held bytes h is).bytes_is)
    ∙ ap (λ (b : List ℕ). header_bytes h ++ b) whole
    ∙ ap (λ (x : Header). header_bytes x ++ (ro ++ manifest)) (header_is_for bytes h ro manifest front is regions)
  where
    joined : Regions bytes h ro manifest → ro ++ manifest ≡ take h.ro_size (drop 256 bytes) ++ drop h.ro_size (drop 256 bytes)
    joined g = rw (g.ro_is, g.manifest_is) refl

-- ---- what passes the tests

-- The bytes are those of two regions behind their header.
pub record IsPlainText (bytes ro manifest : List ℕ) (count : ℕ) : Type 0 where
  pub written : bytes ≡ header_bytes (header_for ro manifest count) ++ (ro ++ manifest)
  pub fits : FitsHeader (header_for ro manifest count)

behind_is : (bytes ro manifest : List ℕ) (count : ℕ) → IsPlainText bytes ro manifest count → drop 256 bytes ≡ ro ++ manifest
behind_is bytes ro manifest count is =
    let h = header_for ro manifest count in
    ap (drop 256) is.written ∙ drop_at (header_bytes h) (ro ++ manifest) 256 (length-header h is.fits)

pub text_alone : (bytes ro manifest : List ℕ) (count : ℕ) → IsPlainText bytes ro manifest count → StandsAlone bytes (header_for ro manifest count)
text_alone bytes ro manifest count is =
    let h = header_for ro manifest count in
    record {
      whole = record {
        read = ap header_of is.written ∙ read_again h (ro ++ manifest) is.fits refl;
        body = ap sha256 (sym (behind_is bytes ro manifest count is));
      };
      lower = refl;
    }

pub text_front : (bytes ro manifest : List ℕ) (count : ℕ) → IsPlainText bytes ro manifest count → front_of bytes ≡ Ok (header_for ro manifest count)
text_front bytes ro manifest count is = alone_first bytes (header_for ro manifest count) (text_alone bytes ro manifest count is)

text_regions : (bytes ro manifest : List ℕ) (count : ℕ) → IsPlainText bytes ro manifest count → has_whole_regions bytes (header_for ro manifest count) ≡ true
unfolding has_whole_regions
text_regions bytes ro manifest count is =
    let size : length bytes - 256 ≡ length ro + length manifest = sym (length-drop 256 bytes) ∙ ap length (behind_is bytes ro manifest count is) ∙ length-append ro manifest in
    let le : length ro ≤ length bytes - 256 = omega (arith, size) in
    let rest : length manifest ≡ length bytes - 256 - length ro = omega (arith, size) in
    and_from (leb (length ro) (length bytes - 256)) (eqb (length manifest) (length bytes - 256 - length ro))
    (le-leb (length ro) (length bytes - 256) le)
    (eq-eqb (length manifest) (length bytes - 256 - length ro) rest)

text_bytes : (bytes ro manifest : List ℕ) (count : ℕ) → IsPlainText bytes ro manifest count → has_its_bytes bytes (header_for ro manifest count) ≡ true
unfolding has_its_bytes
text_bytes bytes ro manifest count is =
    let h = header_for ro manifest count in
    bytes_same (take 256 bytes) (header_bytes h) (ap (take 256) is.written ∙ take_at (header_bytes h) (ro ++ manifest) 256 (length-header h is.fits))

text_numbers : (ro manifest : List ℕ) (count : ℕ) → has_plain_numbers (header_for ro manifest count) ≡ true
unfolding has_plain_numbers
text_numbers ro manifest count = refl

pub text_plain : (bytes ro manifest : List ℕ) (count : ℕ) → IsPlainText bytes ro manifest count → is_plain bytes (header_for ro manifest count) ≡ true
unfolding is_plain
text_plain bytes ro manifest count is =
    let h = header_for ro manifest count in
    and_from (has_its_bytes bytes h && has_plain_numbers h) (has_whole_regions bytes h)
    (and_from (has_its_bytes bytes h) (has_plain_numbers h) (text_bytes bytes ro manifest count is) (text_numbers ro manifest count))
    (text_regions bytes ro manifest count is)

pub text_ro : (bytes ro manifest : List ℕ) (count : ℕ) → IsPlainText bytes ro manifest count → take (length ro) (drop 256 bytes) ≡ ro
text_ro bytes ro manifest count is = ap (take (length ro)) (behind_is bytes ro manifest count is) ∙ take_at ro manifest (length ro) refl

pub text_manifest : (bytes ro manifest : List ℕ) (count : ℕ) → IsPlainText bytes ro manifest count → drop (length ro) (drop 256 bytes) ≡ manifest
text_manifest bytes ro manifest count is = ap (drop (length ro)) (behind_is bytes ro manifest count is) ∙ drop_at ro manifest (length ro) refl

-- The parts that the bytes behind the header were split into.
pub split_regions : (bytes : List ℕ) (h : Header) (body ro manifest : List ℕ) → body ≡ drop 256 bytes → ro ≡ take h.ro_size body → manifest ≡ drop h.ro_size body → Regions bytes h ro manifest
split_regions bytes h body ro manifest e f g = record { ro_is = f ∙ ap (take h.ro_size) e; manifest_is = g ∙ ap (drop h.ro_size) e }
