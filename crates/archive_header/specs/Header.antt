-- The header of an archive: 256 bytes, numbers with the low byte first.
use Rattle.std.specs.Prelude.{◌≡◌, ℕ, ◌+◌, ◌*◌, ◌<◌, ◌^◌, List, [], ◌∷◌, ◌++◌, length, take, drop, replicate, not, nat_lt, ◌==◌, if◌then◌else◌, Result, Ok, Err}
use Rattle.std.specs.Str.{bytes_eq}
use Rattle.sha2.specs.Sha256.{sha256}
use Rattle.jsa_base.specs.LowFirst.{low_u4, low_u8}
use Rattle.archive_header.specs.declared.header.TheConstants.{FORMAT}
use Rattle.archive_header.specs.declared.header.Header.{Header}
use Rattle.archive_header.specs.declared.refuse.Refuse.{Refuse}
use Rattle.archive_header.specs.declared.refuse.Refuse.TheVariants.{Short, Magic, Version, Digest}

-- what an archive begins with
abbrev pub magic : List ℕ
magic = 0x4a ∷ 0x53 ∷ 0x41 ∷ 0x43 ∷ 0x44 ∷ 0x53 ∷ 0x0d ∷ 0x0a ∷ []

-- ---- how it is written

-- places 8 to 71: the format, four bytes 0, and eight numbers
abbrev pub numbers : Header → List ℕ
numbers h = low_u4 h.format
    ++ low_u4 0
    ++ low_u8 h.base
    ++ low_u8 h.rw_size
    ++ low_u8 h.ro_size
    ++ low_u8 h.bitmap_size
    ++ low_u8 h.manifest_size
    ++ low_u8 h.classes
    ++ low_u8 h.root

-- places 0 to 223
unfoldable pub fields : Header → List ℕ
fields h = magic
    ++ numbers h
    ++ h.lower
    ++ h.body_digest
    ++ replicate 88 0

-- At place 224 stands the digest of the bytes before it.
abbrev pub header_bytes : Header → List ℕ
header_bytes h = fields h ++ sha256 (fields h)

-- the numbers and the digests are as long as their fields
pub record FitsHeader (h : Header) : Type 0 where
  pub format : h.format < 2 ^ 32
  pub base : h.base < 2 ^ 64
  pub rw_size : h.rw_size < 2 ^ 64
  pub ro_size : h.ro_size < 2 ^ 64
  pub bitmap_size : h.bitmap_size < 2 ^ 64
  pub manifest_size : h.manifest_size < 2 ^ 64
  pub classes : h.classes < 2 ^ 64
  pub root : h.root < 2 ^ 64
  pub lower : length h.lower ≡ 32
  pub body_digest : length h.body_digest ≡ 32

-- ---- how it is read

-- so many bytes from a place on
abbrev pub field : ℕ → ℕ → List ℕ → List ℕ
field place size bytes = take size (drop place bytes)

-- the number that bytes are, the low byte first
abbrev pub number : List ℕ → ℕ
number [] = 0
number (b ∷ rest) = b + 256 * number rest

-- each field at its place
unfoldable pub header_in : List ℕ → Header
header_in bytes = record {
  format = number (field 8 4 bytes);
  base = number (field 16 8 bytes);
  rw_size = number (field 24 8 bytes);
  ro_size = number (field 32 8 bytes);
  bitmap_size = number (field 40 8 bytes);
  manifest_size = number (field 48 8 bytes);
  classes = number (field 56 8 bytes);
  root = number (field 64 8 bytes);
  lower = field 72 32 bytes;
  body_digest = field 104 32 bytes;
}

-- the digest that the header keeps, and that of the bytes before it
abbrev pub kept_digest : List ℕ → List ℕ
kept_digest bytes = field 224 32 bytes

abbrev pub found_digest : List ℕ → List ℕ
found_digest bytes = sha256 (take 224 bytes)

-- The header that the bytes begin with, or the first refusal that holds. The bytes that are written as 0 are not looked
-- at.
unfoldable pub header_of : List ℕ → Result Header Refuse
header_of bytes =
    if nat_lt (length bytes) 256 then Err Short
    else if not (bytes_eq (field 0 8 bytes) magic) then Err Magic
    else if not (number (field 8 4 bytes) == FORMAT) then Err (Version (number (field 8 4 bytes)))
    else if not (bytes_eq (kept_digest bytes) (found_digest bytes)) then Err (Digest (kept_digest bytes) (found_digest bytes))
    else Ok (header_in bytes)

-- What is written is read again, whatever stands behind it, where its format is the one that is read.
abbrev pub HeadersAreReadAgain : Type 0
HeadersAreReadAgain = (h : Header) (rest : List ℕ) → FitsHeader h → h.format ≡ FORMAT → header_of (header_bytes h ++ rest) ≡ Ok h
