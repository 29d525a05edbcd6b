use Rattle.std.proofs.Common.{◌≡◌, drop}
use Rattle.std.specs.Option.{option_map}
use Rattle.class_tree.specs.Trees.{content_of}
use Rattle.classfile_reader.proofs.Kept.{found_in}
use Rattle.classfile_reader.proofs.tree_building.content_of.Given as goal

abbrev pub invariant-loop-attribute : goal.invariant-loop-attribute
invariant-loop-attribute l = found_in l.pool l.name (option_map (λ c. c.now) l.found) (drop l.attribute-index l.attributes) ≡ content_of l.pool l.name l.attributes
