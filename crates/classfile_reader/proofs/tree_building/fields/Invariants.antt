use Rattle.std.proofs.Common.{◌≡◌, drop}
use Rattle.class_tree.specs.Trees.{each, field_of}
use Rattle.classfile_reader.proofs.PartLoops.{behind}
use Rattle.classfile_reader.proofs.tree_building.fields.Given as goal

abbrev pub invariant-loop-member : goal.invariant-loop-member
invariant-loop-member l = behind l.fields (each (field_of l.pool) (drop l.member-index l.members)) ≡ each (field_of l.pool) l.members
