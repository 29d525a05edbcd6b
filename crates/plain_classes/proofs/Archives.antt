-- The bytes of an archive are those of one list of classes and one manifest.
use Rattle.std.proofs.Common.{◌≡◌, ℕ, List, ◌++◌, length, take, drop, Result, Ok, refl, sym, ap, ◌∙◌}
use Rattle.std.proofs.lemmas.List.{take_at, drop_at}
use Rattle.jsa_base.proofs.Codecs.{some_is}
use Rattle.archive_header.specs.declared.header.Header.{Header}
use Rattle.archive_header.specs.declared.folders.Folders.{Folders}
use Rattle.archive_header.specs.declared.refuse.Refuse.{Refuse}
use Rattle.archive_header.specs.Header.{header_bytes, header_of}
use Rattle.archive_header.specs.ManifestBytes.{manifest_bytes, SpellsManifest}
use Rattle.archive_header.proofs.Headers.{read_again}
use Rattle.archive_header.proofs.Manifests as manifests
use Rattle.plain_classes.specs.declared.class.PlainClass.{PlainClass}
use Rattle.plain_classes.specs.Records.{classes_text, SpellsClasses}
use Rattle.plain_classes.specs.Archives.{archive_header, archive_text, IsArchive, OneArchive}
use Rattle.plain_classes.proofs.Lists.{again}

ok_is : (h k : Header) → ◌≡◌ {A = Result Header Refuse} (Ok h) (Ok k) → h ≡ k
ok_is h k e = cc

-- what stands before a cut, and behind it
front_is : (a b c d : List ℕ) → length a ≡ length c → a ++ b ≡ c ++ d → a ≡ c
front_is a b c d len e = sym (take_at a b (length a) refl) ∙ ap (take (length a)) e ∙ take_at c d (length a) (sym len)

behind_is : (a b c d : List ℕ) → length a ≡ length c → a ++ b ≡ c ++ d → b ≡ d
behind_is a b c d len e = sym (drop_at a b (length a) refl) ∙ ap (drop (length a)) e ∙ drop_at c d (length a) (sym len)

-- the header is the one that is read
pub header_is : (bytes : List ℕ) (c : List PlainClass) (f : Folders) → IsArchive bytes c f → header_of bytes ≡ Ok (archive_header c f)
unfolding archive_text
header_is bytes c f a = ap header_of a.written ∙ read_again (archive_header c f) (classes_text c ++ manifest_bytes f) a.header refl

pub one_is : OneArchive
unfolding archive_text
one_is bytes c d f g a b =
    let same : archive_header c f ≡ archive_header d g = ok_is (archive_header c f) (archive_header d g) (sym (header_is bytes c f a) ∙ header_is bytes d g b) in
    let count : length c ≡ length d = ap (λ (h : Header). h.classes) same in
    let size : length (classes_text c) ≡ length (classes_text d) = ap (λ (h : Header). h.ro_size) same in
    let heads : header_bytes (archive_header c f) ≡ header_bytes (archive_header d g) = ap header_bytes same in
    let body : classes_text c ++ manifest_bytes f ≡ classes_text d ++ manifest_bytes g =
    behind_is (header_bytes (archive_header c f)) (classes_text c ++ manifest_bytes f) (header_bytes (archive_header d g)) (classes_text d ++ manifest_bytes g) (ap length heads) (sym a.written ∙ b.written) in
    let ro : classes_text c ≡ classes_text d = front_is (classes_text c) (manifest_bytes f) (classes_text d) (manifest_bytes g) size body in
    let manifest : manifest_bytes f ≡ manifest_bytes g = behind_is (classes_text c) (manifest_bytes f) (classes_text d) (manifest_bytes g) size body in
    let first : SpellsClasses (classes_text c) (length c) c = record { written = refl; many = refl; fits = a.fits } in
    let second : SpellsClasses (classes_text c) (length c) d = record { written = ro; many = sym count; fits = b.fits } in
    let other : SpellsManifest (manifest_bytes f) g = record { written = manifest; fits = b.manifest.fits; listed = b.manifest.listed } in
    (some_is c d (sym (again (classes_text c) (length c) c first) ∙ again (classes_text c) (length c) d second), manifests.one_is (manifest_bytes f) f g a.manifest other)
