use Rattle.asm_text.proofs.Names.{few_constants, few_loads, few_stores, few_math, few_tests, few_jumps, few_objects, in_part, here, further}
use Rattle.asm_text.proofs.mnemonics.opcode_of.Goals as goal

pub opcode_among-requires : goal.opcode_among-requires
opcode_among-requires c = few_constants

pub returns-in-Some : goal.returns-in-Some
returns-in-Some c = in_part c.args.word.now _ (here _ c.in-Some.ensures)

pub opcode_among-requires-2 : goal.opcode_among-requires-2
opcode_among-requires-2 c = few_loads

pub returns-in-Some-opcode_among : goal.returns-in-Some-opcode_among
returns-in-Some-opcode_among c = in_part c.args.word.now _ (further c.in_default.ensures (here _ c.in-Some-opcode_among.ensures))

pub opcode_among-requires-3 : goal.opcode_among-requires-3
opcode_among-requires-3 c = few_stores

pub returns-in-Some-opcode_among-2 : goal.returns-in-Some-opcode_among-2
returns-in-Some-opcode_among-2 c = in_part c.args.word.now _ (further c.in_default.ensures (further c.in_default-opcode_among.ensures (here _ c.in-Some-opcode_among-2.ensures)))

pub opcode_among-requires-4 : goal.opcode_among-requires-4
opcode_among-requires-4 c = few_math

pub returns-in-Some-opcode_among-3 : goal.returns-in-Some-opcode_among-3
returns-in-Some-opcode_among-3 c = in_part c.args.word.now _ (further c.in_default.ensures (further c.in_default-opcode_among.ensures (further c.in_default-opcode_among-2.ensures (here _ c.in-Some-opcode_among-3.ensures))))

pub opcode_among-requires-5 : goal.opcode_among-requires-5
opcode_among-requires-5 c = few_tests

pub returns-in-Some-opcode_among-4 : goal.returns-in-Some-opcode_among-4
returns-in-Some-opcode_among-4 c = in_part c.args.word.now _ (further c.in_default.ensures (further c.in_default-opcode_among.ensures (further c.in_default-opcode_among-2.ensures (further c.in_default-opcode_among-3.ensures (here _ c.in-Some-opcode_among-4.ensures)))))

pub opcode_among-requires-6 : goal.opcode_among-requires-6
opcode_among-requires-6 c = few_jumps

pub returns-in-Some-opcode_among-5 : goal.returns-in-Some-opcode_among-5
returns-in-Some-opcode_among-5 c = in_part c.args.word.now _ (further c.in_default.ensures (further c.in_default-opcode_among.ensures (further c.in_default-opcode_among-2.ensures (further c.in_default-opcode_among-3.ensures (further c.in_default-opcode_among-4.ensures (here _ c.in-Some-opcode_among-5.ensures))))))

pub opcode_among-requires-7 : goal.opcode_among-requires-7
opcode_among-requires-7 c = few_objects

pub returns : goal.returns
returns c = in_part c.args.word.now _ (further c.in_default.ensures (further c.in_default-opcode_among.ensures (further c.in_default-opcode_among-2.ensures (further c.in_default-opcode_among-3.ensures (further c.in_default-opcode_among-4.ensures (further c.in_default-opcode_among-5.ensures (c.opcode_among-7.ensures)))))))
