-- What mapping answers: the classes of a plain archive, or the first refusal that holds.
use Rattle.std.specs.Prelude.{◌≡◌, ◌⊎◌, ℕ, List, drop, replicate, Option, Some, None, Result, Ok, Err}
use Rattle.sha2.specs.Sha256.{sha256}
use Rattle.archive_header.specs.declared.header.Header.{Header}
use Rattle.archive_header.specs.declared.folders.Folders.{Folders}
use Rattle.archive_header.specs.declared.refuse.Refuse.{Refuse}
use Rattle.archive_header.specs.declared.refuse.Refuse.TheVariants.{Short, Magic, Version, Digest, Layer, Malformed, Path, Base, Memory}
use Rattle.archive_header.specs.Header.{header_of}
use Rattle.archive_header.specs.Folders.{IsFirstChanged}
use Rattle.plain_classes.specs.declared.class.PlainClass.{PlainClass}
use Rattle.plain_classes.specs.Archives.{IsArchive}

-- ---- what has held so far

-- the digest of the bytes behind the header
abbrev pub body_digest : List ℕ → List ℕ
body_digest bytes = sha256 (drop 256 bytes)

-- what an archive keeps of the one below where there is none
abbrev pub no_lower : List ℕ
no_lower = replicate 32 0

-- The bytes begin with this header, and those behind it have the digest that it keeps.
pub record IsWhole (bytes : List ℕ) (header : Header) : Type 0 where
  pub read : header_of bytes ≡ Ok header
  pub body : header.body_digest ≡ body_digest bytes

-- The same, and there is no archive below.
pub record StandsAlone (bytes : List ℕ) (header : Header) : Type 0 where
  pub whole : IsWhole bytes header
  pub lower : header.lower ≡ no_lower

-- ---- the refusals behind the header's, and the answer

-- The header is right, and the digest that it keeps of the bytes behind it isn't theirs.
pub record HasOtherBody (bytes kept found : List ℕ) : Type 0 where
  pub header : Header
  pub read : header_of bytes ≡ Ok header
  pub kept_is : kept ≡ header.body_digest
  pub found_is : found ≡ body_digest bytes
  pub other : kept ≡ found → ⊥

-- The digests are right, and the archive was made over another.
pub record HasOtherLayer (bytes kept found : List ℕ) : Type 0 where
  pub header : Header
  pub whole : IsWhole bytes header
  pub kept_is : kept ≡ header.lower
  pub found_is : found ≡ no_lower
  pub other : kept ≡ found → ⊥

-- The digests and the layer are right, and no classes and folders have these bytes as their archive.
pub record IsMalformed (bytes : List ℕ) : Type 0 where
  pub header : Header
  pub alone : StandsAlone bytes header
  pub none : (classes : List PlainClass) (kept : Folders) → IsArchive bytes classes kept → ⊥

-- The bytes are an archive, and this is the first of its folders that changed.
pub record HasChanged (bytes : List ℕ) (now : Option Folders) (number : ℕ) : Type 0 where
  pub classes : List PlainClass
  pub kept : Folders
  pub archive : IsArchive bytes classes kept
  pub current : Folders
  pub known : now ≡ Some current
  pub changed : IsFirstChanged kept current (Some number)

-- No folder changed, where it is known what there is now.
abbrev pub IsUnchanged : Folders → Option Folders → Type 0
IsUnchanged kept None = Unit {0}
IsUnchanged kept (Some current) = IsFirstChanged kept current None

-- The answer is the first folder that changed, and none where it isn't known what there is now.
abbrev pub HasChange : Folders → Option Folders → Option ℕ → Type 0
HasChange kept None answer = answer ≡ None
HasChange kept (Some current) answer = IsFirstChanged kept current answer

-- The bytes are an archive of these classes, none of whose folders changed.
pub record IsMapped (bytes : List ℕ) (now : Option Folders) (classes : List PlainClass) : Type 0 where
  pub kept : Folders
  pub archive : IsArchive bytes classes kept
  pub unchanged : IsUnchanged kept now

-- What mapping answers, where `now` is the manifest of what there is now, if that is known. Want of memory says nothing.
abbrev pub Maps : List ℕ → Option Folders → Result (List PlainClass) Refuse → Type 0
Maps bytes now (Ok classes) = IsMapped bytes now classes
Maps bytes now (Err Short) = header_of bytes ≡ Err Short
Maps bytes now (Err Magic) = header_of bytes ≡ Err Magic
Maps bytes now (Err (Version format)) = header_of bytes ≡ Err (Version format)
Maps bytes now (Err (Digest kept found)) = (header_of bytes ≡ Err (Digest kept found)) ⊎ HasOtherBody bytes kept found
Maps bytes now (Err (Layer kept found)) = HasOtherLayer bytes kept found
Maps bytes now (Err Malformed) = IsMalformed bytes
Maps bytes now (Err (Path number)) = HasChanged bytes now number
Maps bytes now (Err (Base base span)) = ⊥
Maps bytes now (Err Memory) = Unit {0}

-- ---- laws

-- memory ran out
abbrev pub IsWant : Result (List PlainClass) Refuse → Type 0
IsWant result = result ≡ Err Memory

-- Two answers for the same bytes and the same manifest are one, unless memory ran out.
abbrev pub MapsAsOne : Type 0
MapsAsOne = (bytes : List ℕ) (now : Option Folders) (r s : Result (List PlainClass) Refuse) → Maps bytes now r → Maps bytes now s → (IsWant r → ⊥) → (IsWant s → ⊥) → r ≡ s

-- What is an archive, none of whose folders changed, is mapped, unless memory runs out.
abbrev pub ArchivesAreMapped : Type 0
ArchivesAreMapped = (bytes : List ℕ) (classes : List PlainClass) (kept current : Folders) (result : Result (List PlainClass) Refuse)
    → IsArchive bytes classes kept → IsFirstChanged kept current None → Maps bytes (Some current) result
    → (result ≡ Ok classes) ⊎ IsWant result
