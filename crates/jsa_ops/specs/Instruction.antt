-- Instructions, by the form of their operands (JVM Specification SE 8, 6.5). The first number is the opcode byte.
use Rattle.std.specs.Prelude.{ℕ, ℤ, List}
use Rattle.jsa_ops.specs.declared.instr.Instr.{Instr}
use Rattle.jsa_ops.specs.declared.instr.Instr.TheVariants as coded

pub data Instruction : Type 0 where
  Plain : ℕ → Instruction
  Byte : ℕ → ℤ → Instruction
  Short : ℕ → ℤ → Instruction
  Constant : ℕ → ℕ → Instruction
  Local : ℕ → ℕ → Instruction
  Iinc : ℕ → ℕ → ℤ → Instruction
  Wide : ℕ → ℕ → ℕ → Instruction
  WideIinc : ℕ → ℕ → ℤ → Instruction
  Branch : ℕ → ℤ → Instruction
  Member : ℕ → ℕ → Instruction
  Interface : ℕ → ℕ → ℕ → ℕ → Instruction
  Dynamic : ℕ → ℕ → ℕ → ℕ → Instruction
  ClassOf : ℕ → ℕ → Instruction
  NewArray : ℕ → ℕ → Instruction
  MultiArray : ℕ → ℕ → ℕ → Instruction
  -- default, low, high, and the bytes of the distances
  TableSwitch : ℕ → ℤ → ℤ → ℤ → List ℕ → Instruction
  -- default, and the bytes of the pairs
  LookupSwitch : ℕ → ℤ → List ℕ → Instruction

-- what an instruction of the code stands for
abbrev pub shown : Instr → Instruction
shown (coded.Plain op) = Plain op
shown (coded.Byte op v) = Byte op v
shown (coded.Short op v) = Short op v
shown (coded.Constant op i) = Constant op i
shown (coded.Local op n) = Local op n
shown (coded.Iinc op n v) = Iinc op n v
shown (coded.Wide op code n) = Wide op code n
shown (coded.WideIinc op n v) = WideIinc op n v
shown (coded.Branch op d) = Branch op d
shown (coded.Member op i) = Member op i
shown (coded.Interface op i a b) = Interface op i a b
shown (coded.Dynamic op i a b) = Dynamic op i a b
shown (coded.ClassOf op i) = ClassOf op i
shown (coded.NewArray op code) = NewArray op code
shown (coded.MultiArray op i d) = MultiArray op i d
shown (coded.TableSwitch op other low high distances) = TableSwitch op other low high distances.now
shown (coded.LookupSwitch op other pairs) = LookupSwitch op other pairs.now
