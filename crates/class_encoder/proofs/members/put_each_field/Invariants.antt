use Rattle.std.proofs.Common.{◌≡◌, ◌++◌, length, map}
use Rattle.std.specs.List.{flat_map}
use Rattle.class_tree.specs.ClassFiles.{member}
use Rattle.class_tree.specs.Encoded.{field_member}
use Rattle.class_encoder.proofs.members.put_each_field.Given as goal

abbrev pub invariant-loop-rest : goal.invariant-loop-rest
invariant-loop-rest l = l.out.items ++ flat_map member (map (field_member l.fn.names) l.rest) ≡ l.fn.out.items ++ flat_map member (map (field_member l.fn.names) l.fn.fields)

abbrev pub decreases-loop-rest : goal.decreases-loop-rest
decreases-loop-rest l = length l.rest
