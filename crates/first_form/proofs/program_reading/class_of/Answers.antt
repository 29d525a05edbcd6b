use Rattle.class_tree.proofs.TreesSpelled.{other_versions_have_no_tree}
use Rattle.first_form.proofs.program_reading.class_of.Goals as goal

pub returns-in-Err-Version : goal.returns-in-Err-Version
returns-in-Err-Version c = other_versions_have_no_tree c.args.bytes.now c.in-Err-Version.field-0-0 c.in-Err-Version.field-0-1 (rw c.in-Err-Version.field-0-is at c.in-Err-Version.ensures.causes)
