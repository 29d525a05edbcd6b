-- The bytes of an archive are those of its parts, and what has no such parts is no archive.
use Rattle.std.proofs.Common.{◌≡◌, ℕ, Bool, true, false, List, ◌++◌, length, take, drop, Option, Some, None, Ok, refl, sym, subst, ◌∙◌}
use Rattle.std.specs.Prelude.{Result}
use Rattle.archive_header.specs.declared.header.Header.{Header}
use Rattle.archive_header.specs.declared.folders.Folders.{Folders}
use Rattle.archive_header.specs.declared.refuse.Refuse.{Refuse}
use Rattle.archive_header.specs.Header.{header_bytes, FitsHeader}
use Rattle.archive_header.specs.ManifestBytes.{manifest_bytes, SpellsManifest}
use Rattle.plain_classes.specs.declared.class.PlainClass.{PlainClass}
use Rattle.plain_classes.specs.Records.{classes_text}
use Rattle.plain_classes.specs.Archives.{header_for, archive_header, archive_text, IsArchive}
use Rattle.archive_mapper.specs.Mapping.{StandsAlone, IsMalformed, HasChanged, HasChange, IsUnchanged}
use Rattle.archive_mapper.specs.Fronts.{front_of, is_plain}
use Rattle.archive_mapper.specs.Parts.{AreClasses, IsPlainManifest}
use Rattle.archive_mapper.proofs.Fronts.{front_alone}
use Rattle.archive_mapper.proofs.Regions.{Regions, IsPlainText, header_is_for, bytes_are_for, text_alone, text_front, text_plain, text_ro, text_manifest}

-- ---- an archive has such parts

plain_text : (bytes : List ℕ) (classes : List PlainClass) (kept : Folders) → IsArchive bytes classes kept → IsPlainText bytes (classes_text classes) (manifest_bytes kept) (length classes)
unfolding archive_text
plain_text bytes classes kept is = record { written = is.written; fits = is.header }

pub archive_alone : (bytes : List ℕ) (classes : List PlainClass) (kept : Folders) → IsArchive bytes classes kept → StandsAlone bytes (archive_header classes kept)
archive_alone bytes classes kept is = text_alone bytes (classes_text classes) (manifest_bytes kept) (length classes) (plain_text bytes classes kept is)

pub archive_front : (bytes : List ℕ) (classes : List PlainClass) (kept : Folders) → IsArchive bytes classes kept → front_of bytes ≡ Ok (archive_header classes kept)
archive_front bytes classes kept is = text_front bytes (classes_text classes) (manifest_bytes kept) (length classes) (plain_text bytes classes kept is)

-- What the parts are of an archive with this header.
record Parts (bytes : List ℕ) (h : Header) (classes : List PlainClass) (kept : Folders) : Type 0 where
  pub plain : is_plain bytes h ≡ true
  pub ro : take h.ro_size (drop 256 bytes) ≡ classes_text classes
  pub manifest : drop h.ro_size (drop 256 bytes) ≡ manifest_bytes kept
  pub count : length classes ≡ h.classes

parts_of : (bytes : List ℕ) (h : Header) (classes : List PlainClass) (kept : Folders) → front_of bytes ≡ Ok h → IsArchive bytes classes kept → Parts bytes h classes kept
parts_of bytes h classes kept front is =
    let t = plain_text bytes classes kept is in
    let same : archive_header classes kept ≡ h = ok_is (archive_header classes kept) h (sym (archive_front bytes classes kept is) ∙ front) in
    subst (λ (x : Header). Parts bytes x classes kept) same (record {
      plain = text_plain bytes (classes_text classes) (manifest_bytes kept) (length classes) t;
      ro = text_ro bytes (classes_text classes) (manifest_bytes kept) (length classes) t;
      manifest = text_manifest bytes (classes_text classes) (manifest_bytes kept) (length classes) t;
      count = refl;
    })
  where
    ok_is : (x y : Header) → ◌≡◌ {A = Result Header Refuse} (Ok x) (Ok y) → x ≡ y
    ok_is x y e = cc

-- its classes
archive_classes : (bytes : List ℕ) (h : Header) (ro manifest : List ℕ) (classes : List PlainClass) (kept : Folders) → front_of bytes ≡ Ok h → Regions bytes h ro manifest → IsArchive bytes classes kept → AreClasses ro h.classes classes
archive_classes bytes h ro manifest classes kept front regions is =
    let p = parts_of bytes h classes kept front is in
    record {
      spelled = record { written = regions.ro_is ∙ p.ro; many = p.count; fits = is.fits };
      good = record { records = is.records; distinct = is.distinct };
    }

-- its manifest
archive_manifest : (bytes : List ℕ) (h : Header) (ro manifest : List ℕ) (classes : List PlainClass) (kept : Folders) → front_of bytes ≡ Ok h → Regions bytes h ro manifest → IsArchive bytes classes kept → IsPlainManifest manifest kept
archive_manifest bytes h ro manifest classes kept front regions is =
    let p = parts_of bytes h classes kept front is in
    record { spelled = subst (λ (b : List ℕ). SpellsManifest b kept) (sym (regions.manifest_is ∙ p.manifest)) is.manifest; one = is.one }

-- ---- such parts are an archive

-- The bytes passed every test: the parts are these.
pub parts_are : (bytes : List ℕ) (h : Header) (ro manifest : List ℕ) (classes : List PlainClass) (kept : Folders)
    → front_of bytes ≡ Ok h → is_plain bytes h ≡ true → FitsHeader h → Regions bytes h ro manifest → AreClasses ro h.classes classes → IsPlainManifest manifest kept
    → IsArchive bytes classes kept
unfolding archive_text
parts_are bytes h ro manifest classes kept front plain fits regions good one =
    let written = bytes_are_for bytes h ro manifest front plain regions in
    let head : FitsHeader (header_for ro manifest h.classes) = subst FitsHeader (header_is_for bytes h ro manifest front plain regions) fits in
    let ro_is : ro ≡ classes_text classes = good.spelled.written in
    let manifest_is : manifest ≡ manifest_bytes kept = one.spelled.written in
    let count_is : h.classes ≡ length classes = sym good.spelled.many in
    record {
      written = written ∙ texts ro manifest h.classes (classes_text classes) (manifest_bytes kept) (length classes) ro_is manifest_is count_is;
      header = subst FitsHeader (headers ro manifest h.classes (classes_text classes) (manifest_bytes kept) (length classes) ro_is manifest_is count_is) head;
      fits = good.spelled.fits;
      manifest = subst (λ (b : List ℕ). SpellsManifest b kept) manifest_is one.spelled;
      records = good.good.records;
      distinct = good.good.distinct;
      one = one.one;
    }
  where
    headers : (a b : List ℕ) (n : ℕ) (c d : List ℕ) (m : ℕ) → a ≡ c → b ≡ d → n ≡ m → header_for a b n ≡ header_for c d m
    headers a b n c d m e f g = rw (e, f, g) refl

    texts : (a b : List ℕ) (n : ℕ) (c d : List ℕ) (m : ℕ) → a ≡ c → b ≡ d → n ≡ m → header_bytes (header_for a b n) ++ (a ++ b) ≡ header_bytes (header_for c d m) ++ (c ++ d)
    texts a b n c d m e f g = rw (e, f, g) refl

-- ---- the answers

none_some : {A : Type 0} (x : A) → ◌≡◌ {A = Option A} None (Some x) → ⊥
none_some x e = cc

true_false : (b : Bool) → b ≡ true → b ≡ false → ⊥
true_false b h k = absurd cc

pub not_plain : (bytes : List ℕ) (h : Header) → front_of bytes ≡ Ok h → is_plain bytes h ≡ false → IsMalformed bytes
not_plain bytes h front is = record {
  header = h;
  alone = front_alone bytes h front;
  none = λ classes kept a. true_false (is_plain bytes h) (parts_of bytes h classes kept front a).plain is;
}

pub no_classes : (bytes : List ℕ) (h : Header) (ro manifest : List ℕ) → front_of bytes ≡ Ok h → Regions bytes h ro manifest
    → ((classes : List PlainClass) → AreClasses ro h.classes classes → ◌≡◌ {A = Option (List PlainClass)} None (Some classes)) → IsMalformed bytes
no_classes bytes h ro manifest front regions only = record {
  header = h;
  alone = front_alone bytes h front;
  none = λ classes kept a. none_some classes (only classes (archive_classes bytes h ro manifest classes kept front regions a));
}

pub no_manifest : (bytes : List ℕ) (h : Header) (ro manifest : List ℕ) → front_of bytes ≡ Ok h → Regions bytes h ro manifest
    → ((kept : Folders) → IsPlainManifest manifest kept → ◌≡◌ {A = Option Folders} None (Some kept)) → IsMalformed bytes
no_manifest bytes h ro manifest front regions only = record {
  header = h;
  alone = front_alone bytes h front;
  none = λ classes kept a. none_some kept (only kept (archive_manifest bytes h ro manifest classes kept front regions a));
}

pub has_changed : (bytes : List ℕ) (now : Option Folders) (classes : List PlainClass) (kept : Folders) (number : ℕ) → IsArchive bytes classes kept → HasChange kept now (Some number) → HasChanged bytes now number
has_changed bytes None classes kept number is change = absurd cc
has_changed bytes (Some current) classes kept number is change = record { classes = classes; kept = kept; archive = is; current = current; known = refl; changed = change }

pub is_unchanged : (kept : Folders) (now : Option Folders) → HasChange kept now None → IsUnchanged kept now
is_unchanged kept None change = tt
is_unchanged kept (Some current) change = change
