use Rattle.std.proofs.Common.{rules, w32, FitsSigned}
use Rattle.std.proofs.lemmas.Int.{to_z-of_z}
use Rattle.jsa_ops.proofs.KeyOrder.{next_key, last_falls, all_met}
use Rattle.jsa_ops.proofs.keys.ascend.Goals as goal

pub loop-key-preserved : goal.loop-key-preserved
loop-key-preserved c =
    let fits : FitsSigned w32 c.in-Some.key = search rules in
    next_key _ _ _ _ _ _ _ _ (to_z-of_z w32 c.in-Some.key fits) c.in-Some.ensures c.is_above.ensures c.if-not-is_above.false c.loop-key.invariant

pub returns-then-not-is_above : goal.returns-then-not-is_above
returns-then-not-is_above c =
    let fits : FitsSigned w32 c.in-Some.key = search rules in
    last_falls _ _ _ _ _ _ _ _ (to_z-of_z w32 c.in-Some.key fits) c.in-Some.ensures c.is_above.ensures c.if-not-is_above.true c.loop-key.invariant

pub returns : goal.returns
returns c = all_met _ _ _ c.in_default.ensures c.loop-key.invariant
