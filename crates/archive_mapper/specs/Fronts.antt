-- What is tested of an archive's front and its sizes, as code tests it.
use Rattle.std.specs.Prelude.{ℕ, ◌-◌, List, length, take, Bool, not, nat_le, ◌&&◌, ◌==◌, if◌then◌else◌, Result, Ok, Err}
use Rattle.std.specs.Str.{bytes_eq}
use Rattle.archive_header.specs.declared.header.Header.{Header}
use Rattle.archive_header.specs.declared.refuse.Refuse.{Refuse}
use Rattle.archive_header.specs.declared.refuse.Refuse.TheVariants.{Digest, Layer}
use Rattle.archive_header.specs.Header.{header_bytes, header_of}
use Rattle.archive_mapper.specs.Mapping.{body_digest, no_lower}

-- the header, or the first refusal of the digest behind it and the layer
unfoldable pub tested : List ℕ → Header → Result Header Refuse
tested bytes h =
    if not (bytes_eq h.body_digest (body_digest bytes)) then Err (Digest h.body_digest (body_digest bytes))
    else if not (bytes_eq h.lower no_lower) then Err (Layer h.lower no_lower)
    else Ok h

abbrev pub tested_if_read : List ℕ → Result Header Refuse → Result Header Refuse
tested_if_read bytes (Ok h) = tested bytes h
tested_if_read bytes (Err refuse) = Err refuse

-- the header that the bytes begin with, or the first refusal before their parts are looked at
unfoldable pub front_of : List ℕ → Result Header Refuse
front_of bytes = tested_if_read bytes (header_of bytes)

-- the numbers that are the same in each plain archive
unfoldable pub has_plain_numbers : Header → Bool
has_plain_numbers h = h.base == 0x8_0000_0000 && h.rw_size == 0 && h.bitmap_size == 0 && h.root == 0

-- The two regions make up the bytes behind the header.
unfoldable pub has_whole_regions : List ℕ → Header → Bool
has_whole_regions bytes h = nat_le h.ro_size (length bytes - 256) && (h.manifest_size == length bytes - 256 - h.ro_size)

-- The first 256 bytes are those that the header is written as, which are 0 where it has no field.
unfoldable pub has_its_bytes : List ℕ → Header → Bool
has_its_bytes bytes h = bytes_eq (take 256 bytes) (header_bytes h)

unfoldable pub is_plain : List ℕ → Header → Bool
is_plain bytes h = has_its_bytes bytes h && has_plain_numbers h && has_whole_regions bytes h
