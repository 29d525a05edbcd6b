-- Where the instructions of a code begin (JVM Specification SE 8, 4.9.1): the places that decoding from place 0 reaches.
use Rattle.std.specs.Prelude.{ℕ, zero, suc, Bool, false, List, [], ◌∷◌, length, Option, Some, None, Result, Ok, Err, nat_lt, nat_le, ◌==◌, ◌&&◌, if◌then◌else◌}
use Rattle.std.specs.List.{list_any}
use Rattle.jsa_ops.specs.declared.instr.Instr.{Instr}
use Rattle.jsa_ops.specs.Instruction.{shown, Instruction, Plain, Byte, Short, Constant, Local, Iinc, Wide, WideIinc, Branch, Member, Interface, Dynamic, ClassOf, NewArray, MultiArray, TableSwitch, LookupSwitch}
use Rattle.jsa_ops.specs.declared.fault.OpFault.{OpFault}
use Rattle.jsa_ops.specs.Reading.{decoded}

-- an instruction, its place, and the next place
pub record Placed : Type 0 where
  pub place : ℕ
  pub instr : Instruction
  pub next : ℕ

-- The instructions of a code one after the other, up to a place at which none is decoded, if there is one.
pub record Instructions : Type 0 where
  pub placed : List Placed
  pub bad : Option ℕ

abbrev pub placed_before : Placed → Instructions → Instructions
placed_before first others = record { placed = first ∷ others.placed; bad = others.bad }

-- what follows a decoding at a place
abbrev pub decoded_before : ℕ → Result (Instruction × ℕ) OpFault → (ℕ → Instructions) → Instructions
decoded_before pc (Ok x) others = placed_before (record { place = pc; instr = x.0; next = x.1 }) (others x.1)
decoded_before pc (Err fault) others = record { placed = []; bad = Some pc }

-- those from a place on, at most so many: an instruction takes a byte at least
unfoldable pub instructions_from : ℕ → List ℕ → ℕ → Instructions
instructions_from zero code pc = record { placed = []; bad = None }
instructions_from (suc room) code pc =
    if nat_lt pc (length code) then decoded_before pc (decoded code pc) (instructions_from room code) else record { placed = []; bad = None }

-- A code of more than 65,535 bytes has no instructions (4.7.3).
unfoldable pub instructions : List ℕ → Instructions
instructions code = if nat_le (length code) 65535 then instructions_from (length code) code 0 else record { placed = []; bad = Some 0 }

-- a new
abbrev pub is_new_instruction : Instruction → Bool
is_new_instruction (Plain op) = false
is_new_instruction (Byte op v) = false
is_new_instruction (Short op v) = false
is_new_instruction (Constant op i) = false
is_new_instruction (Local op n) = false
is_new_instruction (Iinc op n v) = false
is_new_instruction (Wide op code n) = false
is_new_instruction (WideIinc op n v) = false
is_new_instruction (Branch op d) = false
is_new_instruction (Member op i) = false
is_new_instruction (Interface op i a b) = false
is_new_instruction (Dynamic op i a b) = false
is_new_instruction (ClassOf op i) = op == 0xbb
is_new_instruction (NewArray op code) = false
is_new_instruction (MultiArray op i d) = false
is_new_instruction (TableSwitch op other low high distances) = false
is_new_instruction (LookupSwitch op other pairs) = false

-- an instruction begins at the place
unfoldable pub is_start : List ℕ → ℕ → Bool
is_start code place = list_any (λ (p : Placed). p.place == place) (instructions code).placed

-- a new begins at the place
unfoldable pub is_new : List ℕ → ℕ → Bool
is_new code place = list_any (λ (p : Placed). p.place == place && is_new_instruction p.instr) (instructions code).placed

-- an instruction of the code with its place and the next place, as contracts see it
abbrev pub placed_shown : ℕ × Instr × ℕ → Placed
placed_shown x = record { place = x.0; instr = shown x.1; next = x.2 }
