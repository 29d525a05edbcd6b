use Rattle.std.proofs.lemmas.Bool.{ne_eqb}
use Rattle.type_verifier.proofs.News.{made_of_nothing, made_of_other, made_of_new}
use Rattle.type_verifier.proofs.constructors.new_index.Goals as goal

pub returns-in_default : goal.returns-in_default
returns-in_default c e pc size =
    let h = rw c.new-cursor.ensures at c.in_default.ensures in
    made_of_nothing e size pc c.args.bytes.now h.0

pub returns-then-op : goal.returns-then-op
returns-then-op c e pc size = made_of_other e size pc c.in-Some.op c.args.bytes.now c.u1.new.self (rw c.new-cursor.ensures at c.in-Some.ensures) (ne_eqb c.in-Some.op 187 c.if-op.true)

pub returns : goal.returns
returns c e pc size = made_of_new e size pc c.args.bytes.now c.u1.new.self c.u2.new.self c.u2.result (rw (c.new-cursor.ensures, c.if-op.false) at c.in-Some.ensures) c.u2.ensures
