-- What was written, and how many bytes it has.
use Rattle.std.proofs.Common.{◌≡◌, ℕ, ◌+◌, ◌≤◌, ◌<◌, Bool, true, false, ltb, List, ◌++◌, length, replicate, refl, sym, subst, ap, ◌∙◌, arith}
use Rattle.std.proofs.lemmas.Bool.{ltb-true, ltb-false}
use Rattle.std.proofs.lemmas.List.{length-append}
use Rattle.sha2.specs.Sha256.{sha256}
use Rattle.sha2.proofs.Facts256.{length-sha256}
use Rattle.archive_header.specs.declared.header.Header.{Header}
use Rattle.archive_header.specs.declared.folders.Folders.{Folders}
use Rattle.archive_header.specs.Header.{fields, header_bytes, FitsHeader}
use Rattle.archive_header.specs.ManifestBytes.{manifest_bytes, SpellsManifest}
use Rattle.plain_classes.specs.declared.class.PlainClass.{PlainClass}
use Rattle.plain_classes.specs.Records.{classes_text, SpellsClasses}
use Rattle.plain_classes.specs.Archives.{header_for, archive_header, archive_text}
use Rattle.archive_dump.specs.Dumping.{IsFew, IsSmall, IsDump, DumpsAreArchives}

-- ---- how many bytes

behind : (l d : List ℕ) → length l ≡ 32 → length d ≡ 32 → length ((l ++ d) ++ replicate 88 0) ≡ 152
behind l d e f = omega (arith, length-append (l ++ d) (replicate {A = ℕ} 88 0), length-append l d, e, f)

length-fields : (h : Header) → length h.lower ≡ 32 → length h.body_digest ≡ 32 → length (fields h) ≡ 224
unfolding fields
length-fields h e f = let g = behind h.lower h.body_digest e f in omega (arith, g)

length-header : (ro manifest : List ℕ) (count : ℕ) → length (header_bytes (header_for ro manifest count)) ≡ 256
length-header ro manifest count =
    let h = header_for ro manifest count in
    let all : length (fields h) ≡ 224 = length-fields h refl (length-sha256 (ro ++ manifest)) in
    omega (arith, all, length-append (fields h) (sha256 (fields h)), length-sha256 (fields h))

pub length-archive : (classes : List PlainClass) (folders : Folders) → length (archive_text classes folders) ≡ 256 + (length (classes_text classes) + length (manifest_bytes folders))
unfolding archive_text
length-archive classes folders =
    let ro = classes_text classes in
    let manifest = manifest_bytes folders in
    omega (arith, length-append (header_bytes (archive_header classes folders)) (ro ++ manifest), length-append ro manifest, length-header ro manifest (length classes))

pub is_large : (classes : List PlainClass) (folders : Folders) → ltb 67108864 (256 + (length (classes_text classes) + length (manifest_bytes folders))) ≡ true → IsSmall classes folders → ⊥
is_large classes folders e small =
    let above : 67108864 < 256 + (length (classes_text classes) + length (manifest_bytes folders)) = ltb-true _ _ e in
    omega (arith, above, length-archive classes folders, small)

is_small : (classes : List PlainClass) (folders : Folders) → ltb 67108864 (256 + (length (classes_text classes) + length (manifest_bytes folders))) ≡ false → IsSmall classes folders
is_small classes folders e =
    let within : 256 + (length (classes_text classes) + length (manifest_bytes folders)) ≤ 67108864 = ltb-false _ _ e in
    omega (arith, within, length-archive classes folders)

-- the test, on the sizes of the parts
pub tested : (a b c d : ℕ) (t u : Bool) → a ≡ c → b ≡ d → t ≡ ltb 67108864 (256 + (a + b)) → t ≡ u → ltb 67108864 (256 + (c + d)) ≡ u
tested a b c d t u e f g h = rw (sym e, sym f) (sym g ∙ h)

-- ---- what was written

pub is_dump : (bytes : List ℕ) (classes : List PlainClass) (folders : Folders) (ro manifest : List ℕ) → IsFew classes → SpellsManifest manifest folders → SpellsClasses ro (length classes) classes
    → ltb 67108864 (256 + (length (classes_text classes) + length (manifest_bytes folders))) ≡ false → FitsHeader (header_for ro manifest (length classes)) → bytes ≡ header_bytes (header_for ro manifest (length classes)) ++ (ro ++ manifest) → IsDump bytes classes folders
unfolding archive_text
is_dump bytes classes folders ro manifest few spells spelled small header is =
    let parts : header_bytes (header_for ro manifest (length classes)) ++ (ro ++ manifest) ≡ header_bytes (archive_header classes folders) ++ (classes_text classes ++ manifest_bytes folders) =
    ap (λ (r : List ℕ). header_bytes (header_for r manifest (length classes)) ++ (r ++ manifest)) spelled.written
    ∙ ap (λ (m : List ℕ). header_bytes (header_for (classes_text classes) m (length classes)) ++ (classes_text classes ++ m)) spells.written in
    record {
      written = is ∙ parts;
      few = few;
      small = is_small classes folders small;
      header = subst (λ (r : List ℕ). FitsHeader (header_for r (manifest_bytes folders) (length classes))) spelled.written (subst (λ (m : List ℕ). FitsHeader (header_for ro m (length classes))) spells.written header);
      fits = spelled.fits;
      manifest = record { written = refl; fits = spells.fits; listed = spells.listed };
    }

pub are_archives : DumpsAreArchives
are_archives bytes classes folders dump records distinct one =
    record { written = dump.written; header = dump.header; fits = dump.fits; manifest = dump.manifest; records = records; distinct = distinct; one = one }
