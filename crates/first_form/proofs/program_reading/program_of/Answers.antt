use Rattle.std.proofs.Common.{sym}
use Rattle.first_form.specs.Form.{is_main}
use Rattle.first_form.proofs.Trees.{code_is_short}
use Rattle.first_form.proofs.program_reading.program_of.Goals as goal

pub program_in-requires : goal.program_in-requires
program_in-requires c =
    let found = sym c.in-Some.ensures in
    code_is_short c.args.t.now (is_main c.args.t.now.pool) c.in-Some.main.now c.in-Some-code.code c.requires (rw c.as_slice.ensures at found) c.in-Some-code.is
