-- The codec of a manifest's folders, without the padding.
use Rattle.std.proofs.Common.{◌≡◌, ℕ, ◌<◌, ◌≤◌, ◌^◌, false, ltb, List, [], ◌∷◌, ◌++◌, length, take, drop, Option, Some, None, refl, sym, ap, subst, ◌∙◌, append_assoc, arith}
use Rattle.std.specs.List.{flat_map, AllByRecursion}
use Rattle.std.proofs.lemmas.Bool.{ltb-false, le-ltb}
use Rattle.std.proofs.lemmas.List.{take_at, drop_at, take-append-drop, length-take, length-append, append-nil}
use Rattle.std.proofs.lemmas.List.Concat.{flat_map-cons, flat_map-append}
use Rattle.jsa_base.specs.Reading.{◌>>=◌, IsBytes, Read, bytes_at, pair_at, made, times}
use Rattle.jsa_base.specs.Spelling.{FitsLongText}
use Rattle.jsa_base.specs.LowFirst.{low_u4, low_u8, low_text, low_counted, FitsLowCounted, low_u4_at, low_u8_at, low_text_at, low_counted_at}
use Rattle.jsa_base.specs.Codec.{Took, Codec}
use Rattle.jsa_base.proofs.Codecs.{bind_some, some_is, guard, on_tag, append-IsBytes, IsBytes-append, made_codec, pair_codec, times_codec, low_u4_codec, low_u8_codec, low_text_codec, low_counted_codec}
use Rattle.archive_header.specs.declared.folders.Folder.{Folder}
use Rattle.archive_header.specs.declared.folders.Folders.{Folders}
use Rattle.archive_header.specs.ManifestBytes.{file_bytes, folder_bytes, one_or_none, all_folders, counts, unpadded, IsDigest, FitsFile, FitsFolder, FitsFolders, file_at, folder_at, one_or_none_at, folders_at}

-- ---- a digest

pub bytes_at-length : (n : ℕ) (bytes x rest : List ℕ) → bytes_at n bytes ≡ Some (x, rest) → n ≡ length x
bytes_at-length n bytes x rest e =
    let g = guard (ltb (length bytes) n) (take n bytes, drop n bytes) (x, rest) e in
    let long : n ≤ length bytes = ltb-false _ _ g.0 in
    let len : length (take n bytes) ≡ n = omega (arith, length-take n bytes) in
    sym (ap (λ (y : List ℕ × List ℕ). length y.0) (sym g.1) ∙ len)

digest_codec : Codec (bytes_at 32) (λ d. d) IsDigest
digest_codec = record { takes = takes; again = again; bytes = λ x fits. fits.1 } where
  takes : (bytes x rest : List ℕ) → IsBytes bytes → bytes_at 32 bytes ≡ Some (x, rest) → Took (λ d. d) IsDigest bytes x rest
  takes bytes x rest fits e =
      let g = guard (ltb (length bytes) 32) (take 32 bytes, drop 32 bytes) (x, rest) e in
      let long : 32 ≤ length bytes = ltb-false _ _ g.0 in
      let len : length (take 32 bytes) ≡ 32 = omega (arith, length-take 32 bytes) in
      let all : take 32 bytes ++ drop 32 bytes ≡ bytes = take-append-drop 32 bytes in
      let both = IsBytes-append (take 32 bytes) (drop 32 bytes) (subst IsBytes (sym all) fits) in
      subst (λ (y : List ℕ × List ℕ). Took (λ d. d) IsDigest bytes y.0 y.1) g.1 (record { parts = sym all; rest_bytes = both.1; fits = (len, both.0) })

  again : (x rest : List ℕ) → IsDigest x → bytes_at 32 (x ++ rest) ≡ Some (x, rest)
  again x rest fits =
      let len : length x ≡ 32 = fits.0 in
      let long : ltb (length (x ++ rest)) 32 ≡ false = le-ltb _ _ (omega (arith, length-append x rest, len)) in
      rw (long, take_at x rest 32 len, drop_at x rest 32 len) refl

-- ---- files and folders

pub file_codec : Codec file_at file_bytes FitsFile
unfolding file_at
file_codec = made_codec (pair_at low_text_at (pair_at low_u8_at (bytes_at 32))) (λ p. low_text p.0 ++ (low_u8 p.1.0 ++ p.1.1)) (λ p. FitsLongText p.0 × ((p.1.0 < 2 ^ 64) × IsDigest p.1.1))
    (λ p. record { name = p.0; size = p.1.0; sha256 = p.1.1 }) (λ f. (f.name, (f.size, f.sha256))) file_bytes FitsFile
    (pair_codec low_text_at (pair_at low_u8_at (bytes_at 32)) low_text (λ p. low_u8 p.0 ++ p.1) FitsLongText (λ p. (p.0 < 2 ^ 64) × IsDigest p.1) low_text_codec
    (pair_codec low_u8_at (bytes_at 32) low_u8 (λ d. d) (λ n. n < 2 ^ 64) IsDigest low_u8_codec digest_codec))
    (λ f fits. refl) (λ p. refl) (λ f. refl) (λ p fits. fits) (λ f fits. fits)

pub folder_codec : Codec folder_at folder_bytes FitsFolder
unfolding folder_at
folder_codec = made_codec (pair_at low_text_at (low_counted_at file_at)) (λ p. low_text p.0 ++ low_counted file_bytes p.1) (λ p. FitsLongText p.0 × FitsLowCounted FitsFile p.1)
    (λ p. record { path = p.0; files = p.1 }) (λ f. (f.path, f.files)) folder_bytes FitsFolder
    (pair_codec low_text_at (low_counted_at file_at) low_text (low_counted file_bytes) FitsLongText (FitsLowCounted FitsFile) low_text_codec (low_counted_codec file_at file_bytes FitsFile file_codec))
    (λ f fits. refl) (λ p. refl) (λ f. refl) (λ p fits. fits) (λ f fits. fits)

-- ---- one folder or none

record TookOne (count : ℕ) (bytes : List ℕ) (o : Option Folder) (rest : List ℕ) : Type 0 where
  parts : bytes ≡ flat_map folder_bytes (one_or_none o) ++ rest
  rest_bytes : IsBytes rest
  fits : AllByRecursion FitsFolder (one_or_none o)
  len : count ≡ length (one_or_none o)

one_folder : (f : Folder) → flat_map folder_bytes (f ∷ []) ≡ folder_bytes f
one_folder f = flat_map-cons folder_bytes f [] ∙ append-nil (folder_bytes f)

one_takes : (count : ℕ) (bytes : List ℕ) (o : Option Folder) (rest : List ℕ) → IsBytes bytes → one_or_none_at count bytes ≡ Some (o, rest) → TookOne count bytes o rest
unfolding one_or_none_at
one_takes count bytes o rest fits h =
    on_tag count 0 _ _ (o, rest) (λ is e. none is e) (on_tag count 1 _ _ (o, rest) (λ is e. one is e) (λ e. absurd cc)) h
  where
    none : count ≡ 0 → ◌≡◌ {A = Read (Option Folder)} (Some (None, bytes)) (Some (o, rest)) → TookOne count bytes o rest
    none is e = subst (λ (y : Option Folder × List ℕ). TookOne count bytes y.0 y.1) (some_is (None, bytes) (o, rest) e) (record { parts = refl; rest_bytes = fits; fits = tt; len = is })

    one : count ≡ 1 → made (λ f. Some f) folder_at bytes ≡ Some (o, rest) → TookOne count bytes o rest
    one is e =
        let a = bind_some (folder_at bytes) (λ x. Some (Some x.0, x.1)) (o, rest) e in
        let t = folder_codec.takes bytes a.0.0 a.0.1 fits a.1 in
        subst (λ (y : Option Folder × List ℕ). TookOne count bytes y.0 y.1) (some_is (Some a.0.0, a.0.1) (o, rest) a.2)
        (record { parts = t.parts ∙ ap (λ (b : List ℕ). b ++ a.0.1) (sym (one_folder a.0.0)); rest_bytes = t.rest_bytes; fits = (t.fits, tt); len = is })

one_again : (o : Option Folder) (rest : List ℕ) → AllByRecursion FitsFolder (one_or_none o) → one_or_none_at (length (one_or_none o)) (flat_map folder_bytes (one_or_none o) ++ rest) ≡ Some (o, rest)
unfolding one_or_none_at
one_again None rest fits = refl
one_again (Some f) rest fits =
    ap (λ (b : List ℕ). made (λ (g : Folder). Some g) folder_at (b ++ rest)) (one_folder f)
    ∙ ap (λ (r : Read Folder). r >>= λ x. Some (Some x.0, x.1)) (folder_codec.again f rest fits.0)

-- ---- all folders

pub all-append : {A : Type 0} (P : A → Type 0) (xs ys : List A) → AllByRecursion P xs → AllByRecursion P ys → AllByRecursion P (xs ++ ys)
all-append P [] ys h k = k
all-append P (x ∷ xs) ys h k = (h.0, all-append P xs ys h.1 k)

all-split : {A : Type 0} (P : A → Type 0) (xs ys : List A) → AllByRecursion P (xs ++ ys) → AllByRecursion P xs × AllByRecursion P ys
all-split P [] ys h = (tt, h)
all-split P (x ∷ xs) ys h = let r = all-split P xs ys h.1 in ((h.0, r.0), r.1)

one_small : (o : Option Folder) → length (one_or_none o) < 2 ^ 32
one_small None = omega arith
one_small (Some f) = omega arith

-- the parts, one after the other
in_turn : (a b c d e f rest : List ℕ) → ((a ++ (b ++ c)) ++ (d ++ (e ++ f))) ++ rest ≡ a ++ (b ++ (c ++ (d ++ (e ++ (f ++ rest)))))
in_turn a b c d e f rest = simp append_assoc

pub folders_in_turn : (m : Folders) → flat_map folder_bytes (all_folders m) ≡ flat_map folder_bytes (one_or_none m.boot) ++ (flat_map folder_bytes (one_or_none m.platform) ++ flat_map folder_bytes m.app)
folders_in_turn m =
    flat_map-append folder_bytes (one_or_none m.boot) (one_or_none m.platform ++ m.app)
    ∙ ap (λ (b : List ℕ). flat_map folder_bytes (one_or_none m.boot) ++ b) (flat_map-append folder_bytes (one_or_none m.platform) m.app)

unpadded_in_turn : (m : Folders) (rest : List ℕ) → unpadded m ++ rest
    ≡ low_u4 (length (one_or_none m.boot)) ++ (low_u4 (length (one_or_none m.platform)) ++ (low_u4 (length m.app) ++ (flat_map folder_bytes (one_or_none m.boot) ++ (flat_map folder_bytes (one_or_none m.platform) ++ (flat_map folder_bytes m.app ++ rest)))))
unpadded_in_turn m rest =
    ap (λ (b : List ℕ). (counts m ++ b) ++ rest) (folders_in_turn m)
    ∙ in_turn (low_u4 (length (one_or_none m.boot))) (low_u4 (length (one_or_none m.platform))) (low_u4 (length m.app)) (flat_map folder_bytes (one_or_none m.boot)) (flat_map folder_bytes (one_or_none m.platform)) (flat_map folder_bytes m.app) rest

laid : (b p n : ℕ) (m : Folders) (bytes rest : List ℕ) → b ≡ length (one_or_none m.boot) → p ≡ length (one_or_none m.platform) → n ≡ length m.app
    → bytes ≡ low_u4 b ++ (low_u4 p ++ (low_u4 n ++ (flat_map folder_bytes (one_or_none m.boot) ++ (flat_map folder_bytes (one_or_none m.platform) ++ (flat_map folder_bytes m.app ++ rest)))))
    → bytes ≡ unpadded m ++ rest
laid b p n m bytes rest e f g h = h ∙ rw (e, f, g) (sym (unpadded_in_turn m rest))

-- ---- the steps of the reading

abbrev with_app : Option Folder × List ℕ → Option Folder × List ℕ → List Folder × List ℕ → Read Folders
with_app boot platform app = Some (record { boot = boot.0; platform = platform.0; app = app.0 }, app.1)

abbrev with_platform : ℕ × List ℕ → Option Folder × List ℕ → Option Folder × List ℕ → Read Folders
with_platform apps boot platform = times folder_at apps.0 platform.1 >>= λ x. with_app boot platform x

abbrev with_boot : ℕ × List ℕ → ℕ × List ℕ → Option Folder × List ℕ → Read Folders
with_boot platforms apps boot = one_or_none_at platforms.0 boot.1 >>= λ x. with_platform apps boot x

abbrev with_apps : ℕ × List ℕ → ℕ × List ℕ → ℕ × List ℕ → Read Folders
with_apps boots platforms apps = one_or_none_at boots.0 apps.1 >>= λ x. with_boot platforms apps x

abbrev with_platforms : ℕ × List ℕ → ℕ × List ℕ → Read Folders
with_platforms boots platforms = low_u4_at platforms.1 >>= λ x. with_apps boots platforms x

abbrev with_boots : ℕ × List ℕ → Read Folders
with_boots boots = low_u4_at boots.1 >>= λ x. with_platforms boots x

apps : (n : ℕ) → Codec (times folder_at n) (flat_map folder_bytes) (λ (xs : List Folder). (length xs ≡ n) × AllByRecursion FitsFolder xs)
apps n = times_codec folder_at folder_bytes FitsFolder n folder_codec

folders_take : (bytes : List ℕ) (m : Folders) (rest : List ℕ) → IsBytes bytes → (low_u4_at bytes >>= λ x. with_boots x) ≡ Some (m, rest) → Took unpadded FitsFolders bytes m rest
folders_take bytes m rest fits h =
    let a1 = bind_some (low_u4_at bytes) (λ x. with_boots x) (m, rest) h in
    let b = a1.0 in
    let a2 = bind_some (low_u4_at b.1) (λ x. with_platforms b x) (m, rest) a1.2 in
    let p = a2.0 in
    let a3 = bind_some (low_u4_at p.1) (λ x. with_apps b p x) (m, rest) a2.2 in
    let n = a3.0 in
    let a4 = bind_some (one_or_none_at b.0 n.1) (λ x. with_boot p n x) (m, rest) a3.2 in
    let boot = a4.0 in
    let a5 = bind_some (one_or_none_at p.0 boot.1) (λ x. with_platform n boot x) (m, rest) a4.2 in
    let platform = a5.0 in
    let a6 = bind_some (times folder_at n.0 platform.1) (λ x. with_app boot platform x) (m, rest) a5.2 in
    let app = a6.0 in
    let t1 = low_u4_codec.takes bytes b.0 b.1 fits a1.1 in
    let t2 = low_u4_codec.takes b.1 p.0 p.1 t1.rest_bytes a2.1 in
    let t3 = low_u4_codec.takes p.1 n.0 n.1 t2.rest_bytes a3.1 in
    let t4 = one_takes b.0 n.1 boot.0 boot.1 t3.rest_bytes a4.1 in
    let t5 = one_takes p.0 boot.1 platform.0 platform.1 t4.rest_bytes a5.1 in
    let t6 = (apps n.0).takes platform.1 app.0 app.1 t5.rest_bytes a6.1 in
    let whole : Folders = record { boot = boot.0; platform = platform.0; app = app.0 } in
    let spelled = t1.parts ∙ ap (λ (r : List ℕ). low_u4 b.0 ++ r) (t2.parts ∙ ap (λ (r : List ℕ). low_u4 p.0 ++ r) (t3.parts ∙ ap (λ (r : List ℕ). low_u4 n.0 ++ r) (t4.parts ∙ ap (λ (r : List ℕ). flat_map folder_bytes (one_or_none boot.0) ++ r) (t5.parts ∙ ap (λ (r : List ℕ). flat_map folder_bytes (one_or_none platform.0) ++ r) t6.parts)))) in
    let small : n.0 < 2 ^ 32 = t3.fits in
    let few : length app.0 < 2 ^ 32 = omega (arith, small, t6.fits.0) in
    subst (λ (y : Folders × List ℕ). Took unpadded FitsFolders bytes y.0 y.1) (some_is (whole, app.1) (m, rest) a6.2) (record {
      parts = laid b.0 p.0 n.0 whole bytes app.1 t4.len t5.len (sym t6.fits.0) spelled;
      rest_bytes = t6.rest_bytes;
      fits = (few, all-append FitsFolder (one_or_none boot.0) (one_or_none platform.0 ++ app.0) t4.fits (all-append FitsFolder (one_or_none platform.0) app.0 t5.fits t6.fits.1));
    })

folders_again : (m : Folders) (rest : List ℕ) → FitsFolders m → (low_u4_at (unpadded m ++ rest) >>= λ x. with_boots x) ≡ Some (m, rest)
folders_again m rest fits =
    let boots = length (one_or_none m.boot) in
    let platforms = length (one_or_none m.platform) in
    let r5 = flat_map folder_bytes m.app ++ rest in
    let r4 = flat_map folder_bytes (one_or_none m.platform) ++ r5 in
    let r3 = flat_map folder_bytes (one_or_none m.boot) ++ r4 in
    let r2 = low_u4 (length m.app) ++ r3 in
    let r1 = low_u4 platforms ++ r2 in
    let of_boot = all-split FitsFolder (one_or_none m.boot) (one_or_none m.platform ++ m.app) fits.1 in
    let of_platform = all-split FitsFolder (one_or_none m.platform) m.app of_boot.1 in
    ap (λ (b : List ℕ). low_u4_at b >>= λ x. with_boots x) (unpadded_in_turn m rest)
    ∙ ap (λ (r : Read ℕ). r >>= λ x. with_boots x) (low_u4_codec.again boots r1 (one_small m.boot))
    ∙ ap (λ (r : Read ℕ). r >>= λ x. with_platforms (boots, r1) x) (low_u4_codec.again platforms r2 (one_small m.platform))
    ∙ ap (λ (r : Read ℕ). r >>= λ x. with_apps (boots, r1) (platforms, r2) x) (low_u4_codec.again (length m.app) r3 fits.0)
    ∙ ap (λ (r : Read (Option Folder)). r >>= λ x. with_boot (platforms, r2) (length m.app, r3) x) (one_again m.boot r4 of_boot.0)
    ∙ ap (λ (r : Read (Option Folder)). r >>= λ x. with_platform (length m.app, r3) (m.boot, r4) x) (one_again m.platform r5 of_platform.0)
    ∙ ap (λ (r : Read (List Folder)). r >>= λ x. with_app (m.boot, r4) (m.platform, r5) x) ((apps (length m.app)).again m.app rest (refl, of_platform.1))

folders_bytes : (m : Folders) → FitsFolders m → IsBytes (unpadded m)
folders_bytes m fits =
    append-IsBytes (counts m) (flat_map folder_bytes (all_folders m))
    (append-IsBytes (low_u4 (length (one_or_none m.boot))) (low_u4 (length (one_or_none m.platform)) ++ low_u4 (length m.app))
    (low_u4_codec.bytes (length (one_or_none m.boot)) (one_small m.boot))
    (append-IsBytes (low_u4 (length (one_or_none m.platform))) (low_u4 (length m.app))
    (low_u4_codec.bytes (length (one_or_none m.platform)) (one_small m.platform))
    (low_u4_codec.bytes (length m.app) fits.0)))
    ((apps (length (all_folders m))).bytes (all_folders m) (refl, fits.1))

pub folders_codec : Codec folders_at unpadded FitsFolders
unfolding folders_at
folders_codec = record { takes = folders_take; again = folders_again; bytes = folders_bytes }
