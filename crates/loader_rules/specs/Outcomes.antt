-- What a search for the file of a class answers and leaves.
use Rattle.std.specs.Prelude.{◌≡◌, ◌≢◌, ℕ, ◌<◌, ◌≤◌, List, [], ◌++◌, length, Option, Some, None, Result, Ok, Err, ⊤}
use Rattle.std.specs.List.{Contains}
use Rattle.std.specs.Option.{option_map, option_to_list}
use Rattle.std.specs.FinMap.{get}
use Rattle.jsa_files.specs.declared.TheConstants.{MAX_FILE}
use Rattle.jsa_files.specs.declared.fault.FilesFault.{FilesFault}
use Rattle.jsa_files.specs.declared.fault.FilesFault.TheVariants.{Failed, TooLarge, TooMany, Memory}
use Rattle.jsa_files.specs.Store.{Store, Contents}
use Rattle.loader_rules.specs.declared.loader.Found.{Found}
use Rattle.loader_rules.specs.declared.loader.Loader.{Loader}
use Rattle.loader_rules.specs.Lists.{FolderLists}
use Rattle.loader_rules.specs.Finding.{Place, found}

abbrev pub FindAnswer : Type 0
FindAnswer = Result (Option Found) FilesFault

-- where a found file stands, by its path
abbrev pub place_of : Found → List ℕ → Place
place_of file path = record { loader = file.loader; folder = file.folder; path = path }

-- The answer is this file, the first that is there. None comes exactly where there is none, and TooLarge exactly where
-- that file is too large.
abbrev pub Finds : Contents → Option Place → FindAnswer → Type 0
Finds contents first (Ok None) = first ≡ None
Finds contents first (Ok (Some file)) = (path : List ℕ) × (first ≡ Some (place_of file path)) × (get contents path ≡ Some file.bytes.items)
Finds contents first (Err Failed) = ⊤
Finds contents first (Err (TooLarge size)) = (place : Place) × (first ≡ Some place) × (bytes : List ℕ) × (get contents place.path ≡ Some bytes) × (length bytes ≡ size)
Finds contents first (Err (TooMany count)) = ⊤
Finds contents first (Err Memory) = ⊤

-- The answer is the file that the loader finds for the name, where the store tells.
abbrev pub FindsAsTold : Option Store → FolderLists → Loader → List ℕ → FindAnswer → Type 0
FindsAsTold None lists from name result = ⊤
FindsAsTold (Some store) lists from name result = Finds store.contents (found store.contents lists from name) result

-- Whether the store tells or not: what is found is one of the files, and where there are none nothing is asked.
abbrev pub IsAmong : List Place → FindAnswer → Type 0
IsAmong files (Ok None) = ⊤
IsAmong files (Ok (Some file)) = (path : List ℕ) × Contains files (place_of file path)
IsAmong files (Err Failed) = files ≢ []
IsAmong files (Err (TooLarge size)) = files ≢ []
IsAmong files (Err (TooMany count)) = ⊤
IsAmong files (Err Memory) = ⊤

-- What is found is small enough, and what is too large isn't. A search never answers TooMany.
abbrev pub FindsSmall : FindAnswer → Type 0
FindsSmall (Ok None) = ⊤
FindsSmall (Ok (Some file)) = length file.bytes.items ≤ MAX_FILE
FindsSmall (Err Failed) = ⊤
FindsSmall (Err (TooLarge size)) = MAX_FILE < size
FindsSmall (Err (TooMany count)) = ⊥
FindsSmall (Err Memory) = ⊤

-- A search that finds a file notes its path, and no other.
abbrev pub reads_after : List (List ℕ) → Option Place → FindAnswer → List (List ℕ)
reads_after reads first (Ok None) = reads
reads_after reads first (Ok (Some file)) = reads ++ option_to_list (option_map (λ place. place.path) first)
reads_after reads first (Err fault) = reads

-- A search changes nothing else.
abbrev pub store_after_find : Option Store → FolderLists → Loader → List ℕ → FindAnswer → Option Store
store_after_find None lists from name result = None
store_after_find (Some store) lists from name result = Some (record { contents = store.contents; reads = reads_after store.reads (found store.contents lists from name) result })
