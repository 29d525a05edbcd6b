use Rattle.std.proofs.Common.{◌∙◌, ap, Bool, not}
use Rattle.plain_classes.proofs.Distinct.{among_keys, seen_is}
use Rattle.plain_classes.proofs.names.add.Goals as goal

pub returns-in-Ok-clause-new : goal.returns-in-Ok-clause-new
returns-in-Ok-clause-new c = c.in-Ok.ensures.added ∙ ap (λ (b : Bool). not b) (among_keys c.args.name c.args.seen.now)

pub returns-in-Ok-clause-seen : goal.returns-in-Ok-clause-seen
returns-in-Ok-clause-seen c = seen_is c.args.seen.now c.insert.new.self c.args.name c.in-Ok.ensures.updates
