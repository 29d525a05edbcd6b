-- What the reading of a manifest says of its spelling.
use Rattle.std.proofs.Common.{◌≡◌, ℕ, zero, suc, ◌+◌, ◌-◌, ◌%◌, ◌<◌, Bool, true, false, ◌&&◌, cond, eqb, ltb, List, [], ◌∷◌, ◌++◌, length, replicate, Option, Some, None, refl, sym, ap, subst, ◌∙◌, arith}
use Rattle.std.specs.List.{list_all}
use Rattle.std.proofs.lemmas.Bool.{eqb-true, eq-eqb, ltb-true, lt-ltb, and_parts, and_from}
use Rattle.std.proofs.lemmas.List.{length-append, length-replicate}
use Rattle.jsa_base.specs.Reading.{◌>>=◌, IsBytes, Read}
use Rattle.jsa_base.proofs.Codecs.{bind_some, some_is, choice}
use Rattle.archive_header.specs.declared.folders.Folders.{Folders}
use Rattle.archive_header.specs.Folders.{are_folders}
use Rattle.archive_header.specs.ManifestBytes.{unpadded, padding, manifest_bytes, SpellsManifest, OneManifest, folders_at, is_zero, is_padding, manifest_of}
use Rattle.archive_header.proofs.ManifestCodecs.{folders_codec}

-- ---- the padding

zeros_are : (rest : List ℕ) → list_all is_zero rest ≡ true → rest ≡ replicate (length rest) 0
zeros_are [] h = refl
zeros_are (b ∷ rest) h =
    let p = and_parts (eqb b 0) (list_all is_zero rest) h in
    ap (λ (x : ℕ). x ∷ rest) (eqb-true b 0 p.0) ∙ ap (λ (r : List ℕ). 0 ∷ r) (zeros_are rest p.1)

are_zeros : (n : ℕ) → list_all is_zero (replicate n 0) ≡ true
are_zeros zero = refl
are_zeros (suc n) = are_zeros n

pads : (size : ℕ) (rest : List ℕ) (total : ℕ) → total ≡ size + length rest → is_padding total rest ≡ true → rest ≡ padding size
pads size rest total is h =
    let p = and_parts (eqb (total % 8) 0 && ltb (length rest) 8) (list_all is_zero rest) h in
    let q = and_parts (eqb (total % 8) 0) (ltb (length rest) 8) p.0 in
    let whole : total % 8 ≡ 0 = eqb-true (total % 8) 0 q.0 in
    let short : length rest < 8 = ltb-true (length rest) 8 q.1 in
    let len : length rest ≡ (8 - size % 8) % 8 = omega (arith, whole, short, is) in
    zeros_are rest p.1 ∙ ap (λ (n : ℕ). replicate n 0) len

padded : (size total : ℕ) → total ≡ size + length (padding size) → is_padding total (padding size) ≡ true
padded size total is =
    let n = (8 - size % 8) % 8 in
    let len : length (padding size) ≡ n = length-replicate n 0 in
    let whole : total % 8 ≡ 0 = omega (arith, is, len) in
    let short : length (padding size) < 8 = omega (arith, len) in
    and_from (eqb (total % 8) 0 && ltb (length (padding size)) 8) (list_all is_zero (padding size))
    (and_from (eqb (total % 8) 0) (ltb (length (padding size)) 8) (eq-eqb (total % 8) 0 whole) (lt-ltb (length (padding size)) 8 short))
    (are_zeros n)

-- ---- the manifest

abbrev tested : ℕ → Folders × List ℕ → Option Folders
tested size m = cond (is_padding size m.1 && are_folders m.0) (Some m.0) None

pub takes : (bytes : List ℕ) (m : Folders) → IsBytes bytes → manifest_of bytes ≡ Some m → SpellsManifest bytes m
unfolding manifest_of manifest_bytes
takes bytes m fits h =
    let a = bind_some (folders_at bytes) (tested (length bytes)) m h in
    let read = a.0.0 in
    let rest = a.0.1 in
    let g = choice (is_padding (length bytes) rest && are_folders read) (Some read) m a.2 in
    let tests = and_parts (is_padding (length bytes) rest) (are_folders read) g.0 in
    let t = folders_codec.takes bytes read rest fits a.1 in
    let total : length bytes ≡ length (unpadded read) + length rest = ap length t.parts ∙ length-append (unpadded read) rest in
    let padding_is = pads (length (unpadded read)) rest (length bytes) total tests.0 in
    subst (λ (y : Folders). SpellsManifest bytes y) (some_is read m g.1) (record { written = t.parts ∙ ap (λ (r : List ℕ). unpadded read ++ r) padding_is; fits = t.fits; listed = tests.1 })

passes : {A : Type 0} (b : Bool) (x : A) → b ≡ true → cond b (Some x) None ≡ Some x
passes true x h = refl
passes false x h = absurd cc

pub again : (bytes : List ℕ) (m : Folders) → SpellsManifest bytes m → manifest_of bytes ≡ Some m
unfolding manifest_of manifest_bytes
again bytes m s =
    let fill = padding (length (unpadded m)) in
    let total : length bytes ≡ length (unpadded m) + length fill = ap length s.written ∙ length-append (unpadded m) fill in
    ap (λ (b : List ℕ). folders_at b >>= tested (length bytes)) s.written
    ∙ ap (λ (r : Read Folders). r >>= tested (length bytes)) (folders_codec.again m fill s.fits)
    ∙ passes (is_padding (length bytes) fill && are_folders m) m (and_from (is_padding (length bytes) fill) (are_folders m) (padded (length (unpadded m)) (length bytes) total) s.listed)

pub one_is : OneManifest
one_is bytes m n s t = some_is m n (sym (again bytes m s) ∙ again bytes n t)
