-- The operand form of each opcode byte (JVM Specification SE 8, 6.5 and 7).
use Rattle.std.specs.Prelude.{ℕ, nat_le, Bool, true, false, Option, Some, None, if◌then◌else◌}
use Rattle.jsa_ops.specs.declared.form.Form.{Form}
use Rattle.jsa_ops.specs.declared.form.Form.TheVariants.{Plain, Byte, Short, NearConstant, Constant, Local, Iinc, Branch, FarBranch, Member, Interface, Dynamic, ClassOf, NewArray, MultiArray, TableSwitch, LookupSwitch, Wide}

-- Each line has the last byte of a run of opcodes: the run begins behind that of the line above.
unfoldable pub form_of : ℕ → Option Form
form_of byte =
    -- nop, aconst_null, iconst_m1 to iconst_5, lconst_0 and 1, fconst_0 to 2, dconst_0 and 1
    if nat_le byte 0x0f then Some Plain
    -- bipush
    else if nat_le byte 0x10 then Some Byte
    -- sipush
    else if nat_le byte 0x11 then Some Short
    -- ldc
    else if nat_le byte 0x12 then Some NearConstant
    -- ldc_w, ldc2_w
    else if nat_le byte 0x14 then Some Constant
    -- iload, lload, fload, dload, aload
    else if nat_le byte 0x19 then Some Local
    -- these with 0 to 3; iaload, laload, faload, daload, aaload, baload, caload, saload
    else if nat_le byte 0x35 then Some Plain
    -- istore, lstore, fstore, dstore, astore
    else if nat_le byte 0x3a then Some Local
    -- these with 0 to 3; iastore, lastore, fastore, dastore, aastore, bastore, castore, sastore
    else if nat_le byte 0x56 then Some Plain
    -- pop, pop2, dup, dup_x1, dup_x2, dup2, dup2_x1, dup2_x2, swap; add, sub, mul, div, rem, neg of i, l, f, d
    else if nat_le byte 0x77 then Some Plain
    -- shl, shr, ushr, and, or, xor of i, l
    else if nat_le byte 0x83 then Some Plain
    -- iinc
    else if nat_le byte 0x84 then Some Iinc
    -- i2l, i2f, i2d, l2i, l2f, l2d, f2i, f2l, f2d, d2i, d2l, d2f, i2b, i2c, i2s; lcmp, fcmpl, fcmpg, dcmpl, dcmpg
    else if nat_le byte 0x98 then Some Plain
    -- ifeq, ifne, iflt, ifge, ifgt, ifle; if_icmp with the same six; if_acmpeq, if_acmpne; goto, jsr
    else if nat_le byte 0xa8 then Some Branch
    -- ret
    else if nat_le byte 0xa9 then Some Local
    -- tableswitch
    else if nat_le byte 0xaa then Some TableSwitch
    -- lookupswitch
    else if nat_le byte 0xab then Some LookupSwitch
    -- ireturn, lreturn, freturn, dreturn, areturn, return
    else if nat_le byte 0xb1 then Some Plain
    -- getstatic, putstatic, getfield, putfield, invokevirtual, invokespecial, invokestatic
    else if nat_le byte 0xb8 then Some Member
    -- invokeinterface
    else if nat_le byte 0xb9 then Some Interface
    -- invokedynamic
    else if nat_le byte 0xba then Some Dynamic
    -- new
    else if nat_le byte 0xbb then Some ClassOf
    -- newarray
    else if nat_le byte 0xbc then Some NewArray
    -- anewarray
    else if nat_le byte 0xbd then Some ClassOf
    -- arraylength, athrow
    else if nat_le byte 0xbf then Some Plain
    -- checkcast, instanceof
    else if nat_le byte 0xc1 then Some ClassOf
    -- monitorenter, monitorexit
    else if nat_le byte 0xc3 then Some Plain
    -- wide
    else if nat_le byte 0xc4 then Some Wide
    -- multianewarray
    else if nat_le byte 0xc5 then Some MultiArray
    -- ifnull, ifnonnull
    else if nat_le byte 0xc7 then Some Branch
    -- goto_w, jsr_w
    else if nat_le byte 0xc9 then Some FarBranch
    else None

-- wide goes before the loads and stores with a written local, ret and iinc
abbrev pub widens : Option Form → Bool
widens (Some Local) = true
widens (Some Iinc) = true
widens _ = false
