use Rattle.class_linker.proofs.FreshLinks.{link_answers}
use Rattle.class_linker.proofs.fresh.FreshClasses.link.Goals as goal

pub returns-clause-told : goal.returns-clause-told
returns-clause-told g c =
    link_answers g.F.Files.store
    (record { folders = c.self.inside.paths; files = c.self.inside.files; readings = c.self.inside.library.readings; loaded = c.self.inside.library.loaded })
    c.args.self.now c.args.id.0 c.mark_linked.new.self.classes c.self.view_is c.mark_linked.ensures.classes
