-- The instructions of main (JVMS 6.5), and the program of a class tree.
use Rattle.std.specs.Prelude.{ℕ, pos, zero, suc, ◌+◌, ◌-◌, ◌-ℤ◌, slice_get, slice_set, List, [], ◌∷◌, length, replicate, Bool, true, false, Option, Some, None, ◌==◌, ◌&&◌, nat_le, nat_lt, if◌then◌else◌, find, codes}
use Rattle.std.specs.Int.{w8, w16, w32, cast_signed, is_in_range}
use Rattle.std.specs.Option.{unwrap_or}
use Rattle.jsa_base.specs.Reading.{◌>>=◌, Read, when, made, pair_at, u1_at, u2_at}
use Rattle.class_tree.specs.declared.constant_pool.PoolEntry.{PoolEntry}
use Rattle.class_tree.specs.declared.constant_pool.PoolEntry.TheVariants.{Integer, Methodref, NameAndType}
use Rattle.class_tree.specs.declared.tree.CodeTree.{CodeTree}
use Rattle.class_tree.specs.declared.tree.ClassTree.{ClassTree}
use Rattle.class_tree.specs.Trees.{is_text}
use Rattle.class_tree.specs.WellFormed.{is_like_class}
use Rattle.first_form.specs.declared.program.Instruction.{Instruction}
use Rattle.first_form.specs.declared.program.Instruction.TheVariants.{Nop, Push, Load, Store, Pop, Dup, Add, Subtract, Multiply, Negate, ShiftLeft, ShiftRight, LogicalShiftRight, And, Or, Xor, Increment, ToByte, ToChar, ToShort, Put, Return}
use Rattle.first_form.specs.declared.program.Program.{Program}
use Rattle.first_form.specs.Form.{declares_put, has_form, is_main}

abbrev pub is_put_in : List PoolEntry → Option PoolEntry → Bool
is_put_in pool (Some (NameAndType name desc)) = is_text pool name (codes "put") && is_text pool desc (codes "(I)V")
is_put_in pool _ = false

-- whether the NameAndType at an index is that of put
abbrev pub names_put : List PoolEntry → ℕ → Bool
names_put pool index = is_put_in pool (slice_get pool index)

-- whether a pool entry is a Methodref to the method put that this class declares
abbrev pub is_own_put : ClassTree → Option PoolEntry → Bool
is_own_put t (Some (Methodref class member)) = is_like_class t.pool class t.this && names_put t.pool member && declares_put t.pool t.methods
is_own_put t _ = false

-- the byte behind the opcode, signed
abbrev pub byte_at : List ℕ → Read Instruction
byte_at bytes = made (λ n. Push (cast_signed w8 n)) u1_at bytes

-- the two bytes behind the opcode, signed
abbrev pub short_at : List ℕ → Read Instruction
short_at bytes = made (λ n. Push (cast_signed w16 n)) u2_at bytes

-- the number of an Integer of the constant pool (4.4.4)
abbrev pub constant_of : Option PoolEntry → Option Instruction
constant_of (Some (Integer bits)) = Some (Push (cast_signed w32 bits))
constant_of _ = None

-- the Integer at the index behind the opcode, which is read in one byte or in two
abbrev pub constant_at : ClassTree → (List ℕ → Read ℕ) → List ℕ → Read Instruction
constant_at t read bytes = do
  index ← read bytes
  push ← constant_of (slice_get t.pool index.0)
  Some (push, index.1)

-- the local behind the opcode
abbrev pub local_at : (ℕ → Instruction) → List ℕ → Read Instruction
local_at of bytes = made of u1_at bytes

-- the local and the signed amount behind the opcode
abbrev pub increment_at : List ℕ → Read Instruction
increment_at bytes = made (λ x. Increment x.0 (cast_signed w8 x.1)) (pair_at u1_at u1_at) bytes

-- invokestatic: the index behind the opcode, of a Methodref
abbrev pub invokestatic_at : ClassTree → List ℕ → Read Instruction
invokestatic_at t bytes = do
  index ← u2_at bytes
  known ← when (is_own_put t (slice_get t.pool index.0))
  Some (Put, index.1)

-- ---- the instructions, one line each (JVMS 6.5)

-- an instruction that is its opcode alone
unfoldable pub plain_by : ℕ → Option Instruction
plain_by opcode =
    if opcode == 0x00 then Some Nop  -- nop
    else if is_in_range 0x02 0x08 opcode then Some (Push (pos opcode -ℤ pos 0x03))  -- iconst_m1, iconst_0 to iconst_5
    else if is_in_range 0x1a 0x1d opcode then Some (Load (opcode - 0x1a))  -- iload_0 to iload_3
    else if is_in_range 0x3b 0x3e opcode then Some (Store (opcode - 0x3b))  -- istore_0 to istore_3
    else if opcode == 0x57 then Some Pop  -- pop
    else if opcode == 0x59 then Some Dup  -- dup
    else if opcode == 0x60 then Some Add  -- iadd
    else if opcode == 0x64 then Some Subtract  -- isub
    else if opcode == 0x68 then Some Multiply  -- imul
    else if opcode == 0x74 then Some Negate  -- ineg
    else if opcode == 0x78 then Some ShiftLeft  -- ishl
    else if opcode == 0x7a then Some ShiftRight  -- ishr
    else if opcode == 0x7c then Some LogicalShiftRight  -- iushr
    else if opcode == 0x7e then Some And  -- iand
    else if opcode == 0x80 then Some Or  -- ior
    else if opcode == 0x82 then Some Xor  -- ixor
    else if opcode == 0x91 then Some ToByte  -- i2b
    else if opcode == 0x92 then Some ToChar  -- i2c
    else if opcode == 0x93 then Some ToShort  -- i2s
    else if opcode == 0xb1 then Some Return  -- return
    else None

-- an instruction whose operands stand behind the opcode
unfoldable pub with_operands_by : ClassTree → ℕ → List ℕ → Read Instruction
with_operands_by t opcode bytes =
    if opcode == 0x10 then byte_at bytes  -- bipush
    else if opcode == 0x11 then short_at bytes  -- sipush
    else if opcode == 0x12 then constant_at t u1_at bytes  -- ldc
    else if opcode == 0x13 then constant_at t u2_at bytes  -- ldc_w
    else if opcode == 0x15 then local_at Load bytes  -- iload
    else if opcode == 0x36 then local_at Store bytes  -- istore
    else if opcode == 0x84 then increment_at bytes  -- iinc
    else if opcode == 0xb8 then invokestatic_at t bytes  -- invokestatic
    else None

-- An opcode that is no instruction alone has operands behind it.
abbrev pub plain_or : Option Instruction → List ℕ → Read Instruction → Read Instruction
plain_or (Some instruction) bytes other = Some (instruction, bytes)
plain_or None bytes other = other

-- the instruction of an opcode, with the bytes after it
abbrev pub instruction_by : ClassTree → ℕ → List ℕ → Read Instruction
instruction_by t opcode bytes = plain_or (plain_by opcode) bytes (with_operands_by t opcode bytes)

unfoldable pub instruction_at : ClassTree → List ℕ → Read Instruction
instruction_at t bytes = do
  opcode ← u1_at bytes
  instruction_by t opcode.0 opcode.1

-- instructions one after the other to the end of the bytes, and at most so many
abbrev pub instructions_in : ClassTree → ℕ → List ℕ → Option (List Instruction)
instructions_in t n [] = Some []
instructions_in t zero (b ∷ bytes) = None
instructions_in t (suc n) (b ∷ bytes) = do
  first ← instruction_at t (b ∷ bytes)
  others ← instructions_in t n first.1
  Some (first.0 ∷ others)

-- ---- what the instructions need (4.9.2, 4.10)

-- how many numbers an instruction takes from the operand stack, and how many it puts there after that (6.5)
unfoldable pub moves : Instruction → (ℕ × ℕ)
moves Nop = (0, 0)
moves (Push number) = (0, 1)
moves (Load local) = (0, 1)
moves (Store local) = (1, 0)
moves Pop = (1, 0)
moves Dup = (1, 2)
moves Add = (2, 1)
moves Subtract = (2, 1)
moves Multiply = (2, 1)
moves Negate = (1, 1)
moves ShiftLeft = (2, 1)
moves ShiftRight = (2, 1)
moves LogicalShiftRight = (2, 1)
moves And = (2, 1)
moves Or = (2, 1)
moves Xor = (2, 1)
moves (Increment local amount) = (0, 0)
moves ToByte = (1, 1)
moves ToChar = (1, 1)
moves ToShort = (1, 1)
moves Put = (1, 0)
moves Return = (0, 0)

-- whether an int was stored in a local, from the list that says so of each
abbrev pub is_stored : List Bool → ℕ → Bool
is_stored stored local = unwrap_or (slice_get stored local) false

-- A load and an iinc name a local in which an earlier instruction stored an int, and a store any local.
unfoldable pub finds_local : List Bool → Instruction → Bool
finds_local stored (Load local) = is_stored stored local
finds_local stored (Increment local amount) = is_stored stored local
finds_local stored (Store local) = nat_lt local (length stored)
finds_local stored other = true

-- the locals in which an int was stored, after an instruction
unfoldable pub stored_after : List Bool → Instruction → List Bool
stored_after stored (Store local) = slice_set stored local true
stored_after stored other = stored

-- the depth of the stack after an instruction
abbrev pub depth_after : ℕ → Instruction → ℕ
depth_after depth i = depth - (moves i).0 + (moves i).1

-- The stack has the operands and, once they are gone, room for what is put there.
abbrev pub finds_room : ℕ → ℕ → Instruction → Bool
finds_room room depth i = nat_le (moves i).0 depth && nat_le (depth_after depth i) room

abbrev pub is_return : Instruction → Bool
is_return Return = true
is_return other = false

-- From this depth of the stack and these locals on each instruction finds its operands, its room and its local, and the
-- last one alone returns.
unfoldable pub fits : ℕ → ℕ → List Bool → List Instruction → Bool
fits room depth stored [] = false
fits room depth stored (i ∷ others) =
    if is_return i then length others == 0
    else finds_room room depth i && finds_local stored i && fits room (depth_after depth i) (stored_after stored i) others

-- A program fits its max_stack and its max_locals; at first the stack is empty and no int is stored.
abbrev pub is_tested : Program → Bool
is_tested program = fits program.max_stack 0 (replicate program.max_locals false) program.instructions

-- the program in the code of main
unfoldable pub program_in : ClassTree → CodeTree → Option Program
program_in t code = do
  instructions ← instructions_in t (length code.bytes) code.bytes
  program ← Some (record { max_stack = code.stack; max_locals = code.locals; instructions = instructions })
  tested ← when (is_tested program)
  Some program

-- the program of a class tree, where it has the first form
unfoldable pub program_of : ClassTree → Option Program
program_of t = do
  formed ← when (has_form t)
  main ← find (is_main t.pool) t.methods
  code ← main.code
  program_in t code
