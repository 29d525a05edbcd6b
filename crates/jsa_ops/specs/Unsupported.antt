-- The instructions that the opcode alone shuts out: those that name a float or double operand or result, and invokedynamic.
use Rattle.std.specs.Prelude.{ℕ, Bool, ◌&&◌, ◌||◌, ◌==◌, nat_le}
use Rattle.jsa_ops.specs.Instruction.{Instruction, Wide}
use Rattle.jsa_ops.specs.Spelling.{opcode}

abbrev pub between : ℕ → ℕ → ℕ → Bool
between low op high = nat_le low op && nat_le op high

-- fconst_0 to dconst_1; fload, dload; fload_0 to dload_3; faload, daload; fstore, dstore; fstore_0 to dstore_3; fastore, dastore
unfoldable pub float_move : ℕ → Bool
float_move op =
    between 0x0b op 0x0f || between 0x17 op 0x18 || between 0x22 op 0x29 || between 0x30 op 0x31 || between 0x38 op 0x39 || between 0x43 op 0x4a || between 0x51 op 0x52

-- fadd, dadd; fsub, dsub; fmul, dmul; fdiv, ddiv; frem, drem; fneg, dneg
unfoldable pub float_math : ℕ → Bool
float_math op =
    between 0x62 op 0x63 || between 0x66 op 0x67 || between 0x6a op 0x6b || between 0x6e op 0x6f || between 0x72 op 0x73 || between 0x76 op 0x77

-- i2f, i2d; l2f to d2f; fcmpl to dcmpg; freturn, dreturn
unfoldable pub float_result : ℕ → Bool
float_result op = between 0x86 op 0x87 || between 0x89 op 0x90 || between 0x95 op 0x98 || between 0xae op 0xaf

-- these, and invokedynamic
unfoldable pub unsupported_opcode : ℕ → Bool
unsupported_opcode op = float_move op || float_math op || float_result op || (op == 0xba)

-- Behind wide the opcode after it decides.
unfoldable pub is_unsupported : Instruction → Bool
is_unsupported (Wide op code n) = unsupported_opcode code
is_unsupported i = unsupported_opcode (opcode i)
