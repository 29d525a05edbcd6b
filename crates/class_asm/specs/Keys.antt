-- The keys of a lookupswitch.
use Rattle.std.specs.Prelude.{Bool, true}
use Rattle.jsa_ops.specs.Instruction.{Instruction, Plain, Byte, Short, Constant, Local, Iinc, Wide, WideIinc, Branch, Member, Interface, Dynamic, ClassOf, NewArray, MultiArray, TableSwitch, LookupSwitch}
use Rattle.jsa_ops.specs.Spelling.{ascend, keys}

-- It is no lookupswitch, or one whose keys ascend (JVMS 4.9.1).
abbrev pub has_ascending_keys : Instruction → Bool
has_ascending_keys (Plain op) = true
has_ascending_keys (Byte op v) = true
has_ascending_keys (Short op v) = true
has_ascending_keys (Constant op i) = true
has_ascending_keys (Local op n) = true
has_ascending_keys (Iinc op n v) = true
has_ascending_keys (Wide op code n) = true
has_ascending_keys (WideIinc op n v) = true
has_ascending_keys (Branch op d) = true
has_ascending_keys (Member op i) = true
has_ascending_keys (Interface op i a b) = true
has_ascending_keys (Dynamic op i a b) = true
has_ascending_keys (ClassOf op i) = true
has_ascending_keys (NewArray op code) = true
has_ascending_keys (MultiArray op i d) = true
has_ascending_keys (TableSwitch op other low high distances) = true
has_ascending_keys (LookupSwitch op other pairs) = ascend (keys pairs)
