-- What is kept of the instructions of a code: a mark for each byte, the places, and where decoding stops.
use Rattle.std.specs.Prelude.{◌≡◌, ℕ, Bool, true, false, List, map, Option, Some, None, slice_get, if◌then◌else◌}
use Rattle.jsa_base.specs.Reading.{IsBytes}
use Rattle.jsa_ops.specs.Instruction.{Instruction}
use Rattle.verify_types.specs.declared.places.Mark.{Mark}
use Rattle.verify_types.specs.declared.places.Mark.TheVariants.{Inside, Start, New}
use Rattle.verify_rules.specs.Places.{Placed, instructions, is_new_instruction, is_start, is_new}

-- the mark of the first byte of an instruction
abbrev pub mark_of : Instruction → Mark
mark_of i = if is_new_instruction i then New else Start

-- an instruction begins at a byte that is marked so
abbrev pub begins : Option Mark → Bool
begins (Some Inside) = false
begins (Some Start) = true
begins (Some New) = true
begins None = false

-- a new begins at a byte that is marked so
abbrev pub makes : Option Mark → Bool
makes (Some Inside) = false
makes (Some Start) = false
makes (Some New) = true
makes None = false

abbrev pub place_of : Placed → ℕ
place_of p = p.place

-- The marks, the places and the bad place are those of the code's instructions.
pub record Knows (code : List ℕ) (marks : List Mark) (starts : List ℕ) (bad : Option ℕ) : Type 0 where
  pub bytes : IsBytes code
  pub start : (place : ℕ) → begins (slice_get marks place) ≡ is_start code place
  pub made : (place : ℕ) → makes (slice_get marks place) ≡ is_new code place
  pub places : starts ≡ map place_of (instructions code).placed
  pub stops : bad ≡ (instructions code).bad
