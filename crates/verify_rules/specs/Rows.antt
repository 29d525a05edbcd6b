-- The typing row of each instruction (JVM Specification SE 8, 4.10.1.9): from the frame before it, the questions in their order, and
-- the frame after it or the cause of a fault.
use Rattle.std.specs.Prelude.{ℕ, ◌-◌, ◌/◌, ◌%◌, List, Option, Some, None, Ok, Err, nat_le, ◌==◌, if◌then◌else◌}
use Rattle.jsa_ops.specs.Instruction.{Instruction, Plain, Byte, Short, Constant, Local, Iinc, Wide, WideIinc, Branch, Member, Interface, Dynamic, ClassOf, NewArray, MultiArray, TableSwitch, LookupSwitch}
use Rattle.class_tree.specs.WellFormed.{class_name}
use Rattle.verify_rules.specs.declared.types.VType.{VType}
use Rattle.verify_rules.specs.declared.types.Frame.{Frame}
use Rattle.verify_rules.specs.declared.letter.Letter.TheVariants.{Int, Reference}
use Rattle.verify_rules.specs.declared.effect.Effect.{Effect}
use Rattle.verify_rules.specs.declared.cause.Cause.TheVariants.{Written}
use Rattle.verify_rules.specs.Causes.{Typed}
use Rattle.verify_rules.specs.Asking.{Asking, silent}
use Rattle.verify_rules.specs.Env.{Env, pool_of}
use Rattle.verify_rules.specs.Letters.{letter_of, effect, effect_of, moved, over}
use Rattle.verify_rules.specs.Locals.{loaded, stored, counted}
use Rattle.verify_rules.specs.StackForms.{stack_form}
use Rattle.verify_rules.specs.Arrays.{element_loaded, element_stored, reference_loaded, reference_stored, length_taken, primitive_array, array_made, array_over, arrays_made}
use Rattle.verify_rules.specs.Objects.{constant_put, new_made, cast, tested, monitored}
use Rattle.verify_rules.specs.Calls.{over_asked, field_row, virtual_row, static_row, interface_row, dynamic_row, special_row, thrown, return_row, plain_return_row}

-- ---- rows that ask nothing

abbrev pub effect_row : ℕ → Option Effect → Frame → Typed Frame
effect_row room None f = Err Written
effect_row room (Some e) f = over f (moved room e f.stack)

-- iaload to saload, by the kind: 4 is aaload
abbrev pub array_loaded : ℕ → ℕ → List VType → Typed (List VType)
array_loaded room kind stack = if kind == 4 then reference_loaded room stack else element_loaded room kind stack

-- iastore to sastore
abbrev pub array_stored : ℕ → List VType → Typed (List VType)
array_stored kind stack = if kind == 4 then reference_stored stack else element_stored kind stack

-- An opcode without operands that asks nothing. Each line has the last opcode of its run.
unfoldable pub silent_row : ℕ → ℕ → Frame → Typed Frame
silent_row room op f =
    if nat_le op 0x0f then effect_row room (effect_of op) f
    -- iload_0 to aload_3
    else if nat_le op 0x2d then loaded room (letter_of ((op - 0x1a) / 4)) ((op - 0x1a) % 4) f
    else if nat_le op 0x35 then over f (array_loaded room (op - 0x2e) f.stack)
    -- istore_0 to astore_3
    else if nat_le op 0x4e then stored (letter_of ((op - 0x3b) / 4)) ((op - 0x3b) % 4) f
    else if nat_le op 0x56 then over f (array_stored (op - 0x4f) f.stack)
    else if nat_le op 0x5f then over f (stack_form room op f.stack)
    else if nat_le op 0x98 then effect_row room (effect_of op) f
    else if op == 0xbe then over f (length_taken room f.stack)
    -- monitorenter, monitorexit
    else if op == 0xc2 then over f (monitored f.stack)
    else if op == 0xc3 then over f (monitored f.stack)
    else Err Written

-- An opcode without operands.
unfoldable pub plain_row : Env → ℕ → Frame → Asking Frame
plain_row e op f =
    if nat_le op 0x98 then silent (silent_row e.code.stack op f)
    -- ireturn to areturn, return
    else if nat_le op 0xb0 then over_asked f (return_row e (letter_of (op - 0xac)) f.stack)
    else if op == 0xb1 then plain_return_row e f
    -- athrow
    else if op == 0xbf then over_asked f (thrown f.stack)
    else silent (silent_row e.code.stack op f)

-- A load, a store or ret with a written local.
unfoldable pub local_row : ℕ → ℕ → ℕ → Frame → Typed Frame
local_row room op k f =
    -- iload to aload
    if nat_le op 0x19 then loaded room (letter_of (op - 0x15)) k f
    -- istore to astore
    else if nat_le op 0x3a then stored (letter_of (op - 0x36)) k f
    else Err Written

-- What a branch takes: one int, two ints, two references, nothing (goto, goto_w), one reference. jsr and jsr_w aren't accepted.
unfoldable pub branch_row : ℕ → List VType → Typed (List VType)
branch_row op stack =
    if nat_le op 0x9e then moved 0 (effect (Some Int) None None) stack
    else if nat_le op 0xa4 then moved 0 (effect (Some Int) (Some Int) None) stack
    else if nat_le op 0xa6 then moved 0 (effect (Some Reference) (Some Reference) None) stack
    else if op == 0xa7 then Ok stack
    else if op == 0xa8 then Err Written
    else if nat_le op 0xc7 then moved 0 (effect (Some Reference) None None) stack
    else if op == 0xc8 then Ok stack
    else Err Written

abbrev pub over_class : Option (List ℕ) → Option (List ℕ)
over_class None = None
over_class (Some name) = array_over name

-- new, anewarray, checkcast, instanceof
unfoldable pub class_row : Env → ℕ → ℕ → ℕ → Frame → Typed Frame
class_row e place op k f =
    if op == 0xbb then new_made e.code.stack (pool_of e) place k f
    else if op == 0xbd then over f (array_made e.code.stack (over_class (class_name (pool_of e) k)) f.stack)
    else if op == 0xc0 then over f (cast e.code.stack (pool_of e) k f.stack)
    else over f (tested e.code.stack (pool_of e) k f.stack)

-- getstatic, putstatic, getfield, putfield, invokevirtual, invokespecial, invokestatic
unfoldable pub member_row : Env → ℕ → ℕ → Frame → Asking Frame
member_row e op k f =
    if nat_le op 0xb5 then over_asked f (field_row e op k f.stack)
    else if op == 0xb6 then over_asked f (virtual_row e k f.stack)
    else if op == 0xb7 then special_row e k f
    else over_asked f (static_row e k f.stack)

abbrev pub int_put : ℕ → Frame → Typed Frame
int_put room f = over f (moved room (effect None None (Some Int)) f.stack)

abbrev pub int_taken : Frame → Typed Frame
int_taken f = over f (moved 0 (effect (Some Int) None None) f.stack)

-- The row of an instruction at a place of the code.
unfoldable pub row : Env → ℕ → Instruction → Frame → Asking Frame
row e place (Plain op) f = plain_row e op f
row e place (Byte op v) f = silent (int_put e.code.stack f)
row e place (Short op v) f = silent (int_put e.code.stack f)
row e place (Constant op k) f = silent (over f (constant_put e.code.stack (pool_of e) op k f.stack))
row e place (Local op k) f = silent (local_row e.code.stack op k f)
row e place (Iinc op k v) f = silent (counted k f)
row e place (Wide op code k) f = silent (local_row e.code.stack code k f)
row e place (WideIinc op k v) f = silent (counted k f)
row e place (Branch op d) f = silent (over f (branch_row op f.stack))
row e place (Member op k) f = member_row e op k f
row e place (Interface op k count last) f = over_asked f (interface_row e k count last f.stack)
row e place (Dynamic op k first second) f = over_asked f (dynamic_row e k first second f.stack)
row e place (ClassOf op k) f = silent (class_row e place op k f)
row e place (NewArray op code) f = silent (over f (array_made e.code.stack (primitive_array code) f.stack))
row e place (MultiArray op k count) f = silent (over f (arrays_made e.code.stack (class_name (pool_of e) k) count f.stack))
row e place (TableSwitch op other low high distances) f = silent (int_taken f)
row e place (LookupSwitch op other pairs) f = silent (int_taken f)
