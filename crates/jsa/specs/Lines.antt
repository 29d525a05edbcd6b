-- The line that an end puts to err, and what err takes of it.
use Rattle.std.specs.Prelude.{◌≡◌, ◌<◌, ◌≤◌, ◌^◌, ◌-◌, ◌⊎◌, ℕ, List, [], ◌++◌, Option, codes}
use Rattle.std.specs.Fmt.{decimal}
use Rattle.jsa_files.specs.Sinks.{GrowsBy, GrowsByFront}
use Rattle.archive_header.specs.declared.refuse.Refuse.{Refuse}
use Rattle.archive_header.specs.declared.refuse.Refuse.TheVariants as refusals
use Rattle.jsa.specs.declared.ended.Ended.{Ended}
use Rattle.jsa.specs.declared.ended.Ended.TheVariants.{Exit, Usage, BadText, NoBoot, NoMain, Missing, NotShared, Stopped, Unsupported, ReadFault, WriteFault, Limit, Memory}
use Rattle.jsa_base.specs.declared.quantity.Quantity.{Quantity}
use Rattle.jsa_base.specs.declared.quantity.Quantity.TheVariants.{FileSize, Names, Classes, ArchiveSize, Loaded}

-- the variant's name
abbrev pub quantity_name : Quantity → List ℕ
quantity_name FileSize = codes "FileSize"
quantity_name Names = codes "Names"
quantity_name Classes = codes "Classes"
quantity_name ArchiveSize = codes "ArchiveSize"
quantity_name Loaded = codes "Loaded"

-- why an archive was refused, in a word, with a number where there is one
abbrev pub cause_name : Refuse → List ℕ
cause_name refusals.Short = codes "short"
cause_name refusals.Magic = codes "magic"
cause_name (refusals.Version format) = codes "version " ++ decimal format
cause_name (refusals.Digest kept found) = codes "digest"
cause_name (refusals.Layer kept found) = codes "layer"
cause_name refusals.Malformed = codes "malformed"
cause_name (refusals.Path folder) = codes "path " ++ decimal folder
cause_name (refusals.Base base span) = codes "base"
cause_name refusals.Memory = codes "memory"

-- what stands behind the path of an archive that was refused
abbrev pub cause_end : Refuse → List ℕ
cause_end refuse = codes ": " ++ cause_name refuse ++ codes "\n"

-- The line of an end, by the name or path that it tells and the limit of turns. An exit has none.
unfoldable pub line_of : Ended → List ℕ → ℕ → List ℕ
line_of (Exit code) subject steps = []
line_of Usage subject steps = codes "usage\n"
line_of (BadText number) subject steps = codes "line " ++ decimal number ++ codes "\n"
line_of NoBoot subject steps = codes "no boot class " ++ (subject ++ codes "\n")
line_of NoMain subject steps = codes "no main in " ++ (subject ++ codes "\n")
line_of Missing subject steps = codes "missing " ++ (subject ++ codes "\n")
line_of (NotShared refuse) subject steps = codes "not shared " ++ (subject ++ cause_end refuse)
line_of Stopped subject steps = codes "stopped after " ++ decimal steps ++ codes " steps\n"
line_of Unsupported subject steps = codes "unsupported " ++ (subject ++ codes "\n")
line_of ReadFault subject steps = codes "read fault\n"
line_of WriteFault subject steps = codes "write fault\n"
line_of (Limit quantity limit) subject steps = codes "limit " ++ quantity_name quantity ++ codes " " ++ decimal limit ++ codes "\n"
line_of Memory subject steps = codes "out of memory\n"

-- A front of the line was taken: all of it where no put failed, which is where the count of faults stands still below
-- its type's end, and all of it where no put can fail.
pub record TakesLine (before after : Option (List ℕ)) (old new : ℕ) (can_fail : Type 0) (line : List ℕ) : Type 0 where
  pub front : GrowsByFront before after line
  pub whole : new < 2 ^ 64 - 1 → new ≡ old → GrowsBy before after line
  pub sure : ¬ can_fail → GrowsBy before after line

-- A front of the end's line was taken, or of the line of want of memory, which took the end's place.
abbrev pub TakesFront : Option (List ℕ) → Option (List ℕ) → Ended → List ℕ → ℕ → Type 0
TakesFront before after ended subject steps = GrowsByFront before after (line_of ended subject steps) ⊎ GrowsByFront before after (line_of Memory subject steps)

-- Err's count of faults doesn't fall. After an exit, which has no line, it is as before.
abbrev pub CountsErr : ℕ → ℕ → Ended → Type 0
CountsErr before now (Exit code) = now ≡ before
CountsErr before now Usage = before ≤ now
CountsErr before now (BadText number) = before ≤ now
CountsErr before now NoBoot = before ≤ now
CountsErr before now NoMain = before ≤ now
CountsErr before now Missing = before ≤ now
CountsErr before now (NotShared refuse) = before ≤ now
CountsErr before now Stopped = before ≤ now
CountsErr before now Unsupported = before ≤ now
CountsErr before now ReadFault = before ≤ now
CountsErr before now WriteFault = before ≤ now
CountsErr before now (Limit quantity limit) = before ≤ now
CountsErr before now Memory = before ≤ now
