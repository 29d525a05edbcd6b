use Rattle.std.proofs.Common.{sym, arith}
use Rattle.jsa_names.specs.Types.{field_shown}
use Rattle.verify_rules.specs.Env.{vtypes_of}
use Rattle.type_verifier.proofs.Parameters.{types_none, types_all, types_more, length_types}
use Rattle.type_verifier.proofs.descriptors.vtypes.Goals as goal

pub returns-in_default : goal.returns-in_default
unfolding vtypes_of
returns-in_default c =
    let e = types_none c.loop-k.types c.loop-k.k c.args.m.now.parameters c.loop-k.invariant (sym c.in_default.ensures) in
    record { types = e; count = length_types c.args.m.now.parameters c.loop-k.types e }

pub loop-k-preserved : goal.loop-k-preserved
loop-k-preserved c =
    types_more c.loop-k.types c.loop-k.k c.args.m.now.parameters c.loop-k.invariant (field_shown c.in-Some.t) c.push.new.self (sym c.in-Some.ensures) (rw c.in_ok-vtype.ensures at c.in_ok-push.ensures.ok)

pub returns : goal.returns
unfolding vtypes_of
returns c =
    let e = types_all c.loop-k.types c.loop-k.k c.args.m.now.parameters c.loop-k.invariant (omega arith) in
    record { types = e; count = length_types c.args.m.now.parameters c.loop-k.types e }
