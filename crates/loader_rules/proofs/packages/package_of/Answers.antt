use Rattle.std.proofs.Common.{◌∙◌}
use Rattle.std.proofs.lemmas.Bool.{ne_eqb}
use Rattle.loader_rules.proofs.PackageEnds.{at_slash, at_other, of_nothing}
use Rattle.loader_rules.proofs.packages.package_of.Goals as goal

pub returns-in_default : goal.returns-in_default
returns-in_default c = of_nothing c.loop-front.front.now c.in_default.len_below ∙ c.loop-front.invariant

pub returns-then-last-eq47 : goal.returns-then-last-eq47
returns-then-last-eq47 c = at_slash c.loop-front.front.now 0 c.in-len1-up.len_at_least c.if-last-eq47.true ∙ c.loop-front.invariant

pub loop-front-preserved : goal.loop-front-preserved
loop-front-preserved c = at_other c.loop-front.front.now 0 c.in-len1-up.len_at_least (ne_eqb _ _ c.if-last-eq47.false) ∙ c.loop-front.invariant
