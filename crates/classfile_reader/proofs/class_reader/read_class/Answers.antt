use Rattle.classfile_reader.proofs.ClassAnswered.{class_answered, tree_answered, version_answered, none_answered}
use Rattle.classfile_reader.proofs.class_reader.read_class.Goals as goal

pub returns-clause-causes : goal.returns-clause-causes
returns-clause-causes c = class_answered c.args.bytes.now c.read.result c.are_bytes.ensures c.read.ensures

pub returns-clause-only : goal.returns-clause-only
returns-clause-only c = tree_answered c.args.bytes.now c.read.result (class_answered c.args.bytes.now c.read.result c.are_bytes.ensures c.read.ensures)

pub returns-clause-version : goal.returns-clause-version
returns-clause-version c = version_answered c.args.bytes.now c.read.result c.are_bytes.ensures (class_answered c.args.bytes.now c.read.result c.are_bytes.ensures c.read.ensures)

pub returns-clause-none : goal.returns-clause-none
returns-clause-none c = none_answered c.args.bytes.now c.read.result (class_answered c.args.bytes.now c.read.result c.are_bytes.ensures c.read.ensures)
