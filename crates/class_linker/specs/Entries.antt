-- What the first steps of a load come to, as functions of what was read. No public contract cites these.
use Rattle.std.specs.Prelude.{◌≡◌, ◌⊎◌, ℕ, List, ◌∷◌, if◌then◌else◌}
use Rattle.std.specs.Str.{bytes_eq}
use Rattle.jsa_base.specs.declared.quantity.Quantity.TheVariants.{FileSize}
use Rattle.jsa_files.specs.declared.TheConstants.{MAX_FILE}
use Rattle.jsa_files.specs.declared.fault.FilesFault.{FilesFault}
use Rattle.jsa_files.specs.declared.fault.FilesFault.TheVariants as files
use Rattle.loader_rules.specs.declared.loader.Loader.{Loader}
use Rattle.class_tree.specs.declared.tree.ClassTree.{ClassTree}
use Rattle.class_record.specs.declared.fault.JavaFault.TheVariants.{NoClassDefFoundError, ClassFormatError, UnsupportedClassVersionError, ClassCircularityError}
use Rattle.class_record.specs.declared.fault.ClassesFault.{ClassesFault}
use Rattle.class_record.specs.declared.fault.ClassesFault.TheVariants.{Read, Limit, Memory}
use Rattle.class_record.specs.Files.{Name, sees}
use Rattle.class_tree.specs.ClassNames.{own_name}
use Rattle.class_record.specs.Trees.{bases_of}
use Rattle.class_record.specs.Loading.{is_among}
use Rattle.class_linker.specs.declared.entering.Entered.{Entered}
use Rattle.class_linker.specs.declared.entering.Entered.TheVariants.{Present, Begun, Fails}
use Rattle.class_linker.specs.declared.readings.Held.{Held}
use Rattle.class_linker.specs.declared.readings.Held.TheVariants.{Tree, Loaded, OtherVersion, NotClass}
use Rattle.class_linker.specs.declared.readings.Reading.{Reading}
use Rattle.class_linker.specs.declared.under_way.Frame.{Frame}
use Rattle.class_linker.specs.Adds.{Adds, read_as}
use Rattle.class_linker.specs.Kept.{names_under}

-- what is answered, and the classes under way then
pub record Entry : Type 0 where
  pub answer : Entered
  pub path : List Frame

abbrev pub entry : Entered → List Frame → Entry
entry answer path = record { answer = answer; path = path }

-- a class whose loading begins
abbrev pub frame_of : Name → ℕ → Loader → ClassTree → Frame
frame_of name place loader tree = record { name = name; place = place; loader = loader; bases = bases_of tree; done = 0 }

abbrev pub entry_of_tree : Name → ℕ → Loader → ClassTree → List Frame → Entry
entry_of_tree name place loader tree path =
    if bytes_eq (own_name tree) name then entry Begun (frame_of name place loader tree ∷ path) else entry (Fails NoClassDefFoundError) path

abbrev pub entry_of_held : Name → ℕ → Loader → Held → List Frame → Entry
entry_of_held name place loader (Tree tree) path = entry_of_tree name place loader tree path
entry_of_held name place loader Loaded path = entry Present path
entry_of_held name place loader OtherVersion path = entry (Fails UnsupportedClassVersionError) path
entry_of_held name place loader NotClass path = entry (Fails ClassFormatError) path

-- of a name whose class file was read so, and is asked for from a loader
abbrev pub entry_of : Loader → Name → ℕ → Reading → List Frame → Entry
entry_of from name place r path =
    if sees from r.loader then if is_among name (names_under path) then entry (Fails ClassCircularityError) path else entry_of_held name place r.loader r.held path
    else entry (Fails NoClassDefFoundError) path

-- of a name whose class file is read now
pub record AddsEntry (before after : List Reading) (from : Loader) (name : Name) (loader : Loader) (folder : ℕ) (bytes : List ℕ) (path : List Frame) (e : Entry) : Type 0 where
  pub place : ℕ
  pub adds : Adds before after place name loader folder bytes
  pub entry_is : entry_of from name place (read_as name loader folder adds.held) path ≡ e

-- The class file is read now, or nothing is.
abbrev pub MayAdd : List Reading → List Reading → Name → Loader → ℕ → List ℕ → Type 0
MayAdd before after name loader folder bytes = (after ≡ before) ⊎ ((place : ℕ) × Adds before after place name loader folder bytes)

abbrev pub fault_after : FilesFault → ClassesFault
fault_after files.Failed = Read
fault_after (files.TooLarge size) = Limit FileSize MAX_FILE
fault_after (files.TooMany count) = Memory
fault_after files.Memory = Memory
