use Rattle.std.proofs.Common.{◌≡◌, false, subst, sym}
use Rattle.class_record.specs.Loading.{is_among}
use Rattle.class_record.specs.Facts.{names_of}
use Rattle.loaded_classes.specs.Table.{ClassTable}
use Rattle.loaded_classes.specs.Held.{facts_list}
use Rattle.loaded_classes.proofs.Known.{unknown}
use Rattle.loaded_classes.proofs.table.LoadedClasses.named.Goals as goal

pub returns-in-None : goal.returns-in-None
returns-in-None c =
    subst (λ (t : ClassTable). is_among c.args.name.now (names_of t.classes) ≡ false) c.self.view_is
    (unknown c.self.inside.places (names_of (facts_list c.self.inside.classes.items)) c.args.name.now c.self.invariant.known (sym c.in-None.ensures))
