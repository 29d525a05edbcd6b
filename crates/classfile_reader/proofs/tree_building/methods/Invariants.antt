use Rattle.std.proofs.Common.{◌≡◌, drop}
use Rattle.class_tree.specs.Trees.{each, method_of}
use Rattle.classfile_reader.proofs.PartLoops.{behind}
use Rattle.classfile_reader.proofs.tree_building.methods.Given as goal

abbrev pub invariant-loop-member : goal.invariant-loop-member
invariant-loop-member l = behind l.methods (each (method_of l.pool) (drop l.member-index l.members)) ≡ each (method_of l.pool) l.members
