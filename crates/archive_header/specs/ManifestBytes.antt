-- How a manifest is written and read, numbers with the low byte first.
use Rattle.std.specs.Prelude.{◌≡◌, ℕ, ◌-◌, ◌%◌, ◌<◌, ◌^◌, List, [], ◌∷◌, ◌++◌, length, replicate, IsTrue, Bool, true, ◌&&◌, ◌==◌, nat_lt, if◌then◌else◌, Option, Some, None}
use Rattle.std.specs.List.{flat_map, list_all, AllByRecursion}
use Rattle.jsa_base.specs.Reading.{◌>>=◌, IsBytes, Read, bytes_at, pair_at, made, times}
use Rattle.jsa_base.specs.Spelling.{FitsLongText}
use Rattle.jsa_base.specs.LowFirst.{low_u4, low_u8, low_text, low_counted, FitsLowCounted, low_u4_at, low_u8_at, low_text_at, low_counted_at}
use Rattle.archive_header.specs.declared.folders.ListedFile.{ListedFile}
use Rattle.archive_header.specs.declared.folders.Folder.{Folder}
use Rattle.archive_header.specs.declared.folders.Folders.{Folders}
use Rattle.archive_header.specs.Folders.{are_folders}

-- ---- how it is written

-- the name behind its length, the size, the digest
abbrev pub file_bytes : ListedFile → List ℕ
file_bytes f = low_text f.name ++ (low_u8 f.size ++ f.sha256)

-- the path behind its length, the files behind their number
abbrev pub folder_bytes : Folder → List ℕ
folder_bytes f = low_text f.path ++ low_counted file_bytes f.files

-- one folder or none, as a list
abbrev pub one_or_none : Option Folder → List Folder
one_or_none None = []
one_or_none (Some f) = f ∷ []

-- boot, platform and application, in order
abbrev pub all_folders : Folders → List Folder
all_folders m = one_or_none m.boot ++ (one_or_none m.platform ++ m.app)

-- how many folders of each kind there are
abbrev pub counts : Folders → List ℕ
counts m = low_u4 (length (one_or_none m.boot)) ++ (low_u4 (length (one_or_none m.platform)) ++ low_u4 (length m.app))

abbrev pub unpadded : Folders → List ℕ
unpadded m = counts m ++ flat_map folder_bytes (all_folders m)

-- zeros to a multiple of 8, fewer than 8 of them
abbrev pub padding : ℕ → List ℕ
padding size = replicate ((8 - size % 8) % 8) 0

unfoldable pub manifest_bytes : Folders → List ℕ
manifest_bytes m = unpadded m ++ padding (length (unpadded m))

-- ---- which folders fit where they are written

abbrev pub IsDigest : List ℕ → Type 0
IsDigest d = (length d ≡ 32) × IsBytes d

abbrev pub FitsFile : ListedFile → Type 0
FitsFile f = FitsLongText f.name × ((f.size < 2 ^ 64) × IsDigest f.sha256)

abbrev pub FitsFolder : Folder → Type 0
FitsFolder f = FitsLongText f.path × FitsLowCounted FitsFile f.files

abbrev pub HasFewFiles : Folder → Type 0
HasFewFiles f = length f.files < 2 ^ 32

abbrev pub FitsFolders : Folders → Type 0
FitsFolders m = (length m.app < 2 ^ 32) × AllByRecursion FitsFolder (all_folders m)

-- The path and the names have fewer than 2^32 bytes each.
abbrev pub has_short_name : ListedFile → Bool
has_short_name f = nat_lt (length f.name) 0x1_0000_0000

abbrev pub has_short_texts : Folder → Bool
has_short_texts f = nat_lt (length f.path) 0x1_0000_0000 && list_all has_short_name f.files

abbrev pub has_short_texts_or_none : Option Folder → Bool
has_short_texts_or_none None = true
has_short_texts_or_none (Some f) = has_short_texts f

abbrev pub have_short_texts : Folders → Bool
have_short_texts m = has_short_texts_or_none m.boot && has_short_texts_or_none m.platform && list_all has_short_texts m.app

-- The same, folder by folder.
abbrev pub HasShortName : ListedFile → Type 0
HasShortName f = length f.name < 2 ^ 32

abbrev pub HasShortTexts : Folder → Type 0
HasShortTexts f = (length f.path < 2 ^ 32) × AllByRecursion HasShortName f.files

abbrev pub HaveShortTexts : Folders → Type 0
HaveShortTexts m = AllByRecursion HasShortTexts (all_folders m)

-- The bytes are those of the manifest of these folders.
pub record SpellsManifest (bytes : List ℕ) (m : Folders) : Type 0 where
  pub written : bytes ≡ manifest_bytes m
  pub fits : FitsFolders m
  pub listed : IsTrue (are_folders m)

-- Bytes are those of one manifest at most.
abbrev pub OneManifest : Type 0
OneManifest = (bytes : List ℕ) (m n : Folders) → SpellsManifest bytes m → SpellsManifest bytes n → m ≡ n

-- ---- how it is read

unfoldable pub file_at : List ℕ → Read ListedFile
file_at = made (λ p. record { name = p.0; size = p.1.0; sha256 = p.1.1 }) (pair_at low_text_at (pair_at low_u8_at (bytes_at 32)))

unfoldable pub folder_at : List ℕ → Read Folder
folder_at = made (λ p. record { path = p.0; files = p.1 }) (pair_at low_text_at (low_counted_at file_at))

-- a folder where the number is 1, none where it is 0
unfoldable pub one_or_none_at : ℕ → List ℕ → Read (Option Folder)
one_or_none_at count bytes =
    if count == 0 then Some (None, bytes)
    else if count == 1 then made (λ f. Some f) folder_at bytes
    else None

unfoldable pub folders_at : List ℕ → Read Folders
folders_at bytes = do
  boots ← low_u4_at bytes
  platforms ← low_u4_at boots.1
  apps ← low_u4_at platforms.1
  boot ← one_or_none_at boots.0 apps.1
  platform ← one_or_none_at platforms.0 boot.1
  app ← times folder_at apps.0 platform.1
  Some (record { boot = boot.0; platform = platform.0; app = app.0 }, app.1)

abbrev pub is_zero : ℕ → Bool
is_zero b = b == 0

-- Zeros that fill so many bytes in all to a multiple of 8.
abbrev pub is_padding : ℕ → List ℕ → Bool
is_padding size rest = (size % 8 == 0) && nat_lt (length rest) 8 && list_all is_zero rest

unfoldable pub manifest_of : List ℕ → Option Folders
manifest_of bytes = do
  m ← folders_at bytes
  if is_padding (length bytes) m.1 && are_folders m.0 then Some m.0 else None
