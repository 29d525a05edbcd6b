use Rattle.vm_start.proofs.LinkedClasses.{named_on, is_linked}
use Rattle.vm_start.proofs.fetching.link_loaded.Goals as goal

pub returns-in-Ok-None-clause-linked : goal.returns-in-Ok-None-clause-linked
returns-in-Ok-None-clause-linked g c = λ good.
    let old = c.args.classes.now in
    let new = c.link.new.self in (
      c.args.id.0,
      named_on (g.C.Classes.classes old) (g.C.Classes.classes new) c.args.id.0 c.args.row.now.name.now c.in-Ok-None.ensures.grows c.requires,
      is_linked (g.C.Classes.linked old) (g.C.Classes.linked new) c.args.id.0 (rw c.in-Ok-None.field-0-is at c.in-Ok-None.ensures.linked),
    )
