use Rattle.class_linker.proofs.FreshLinks.{all_linked}
use Rattle.loaded_classes.specs.Table.{linked_at}
use Rattle.class_linker.proofs.fresh.FreshClasses.count.Goals as goal

pub returns-clause-links : goal.returns-clause-links
returns-clause-links g c =
    all_linked (g.F.Files.store c.args.self.now.files) c.args.self.now.folders c.args.self.now.loaded.classes (λ id. linked_at c.args.self.now.loaded.linked id)
