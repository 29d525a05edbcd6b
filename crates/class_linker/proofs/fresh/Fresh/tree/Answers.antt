use Rattle.class_linker.proofs.FreshTrees.{tree_told}
use Rattle.class_linker.proofs.fresh.Fresh.tree.Goals as goal

pub returns : goal.returns
returns g c =
    tree_told g.F.Files.store
    (record { folders = c.self.inside.paths; files = c.self.inside.files; readings = c.self.inside.library.readings; loaded = c.self.inside.library.loaded })
    c.args.self.now c.args.id.0 c.tree.result.now c.self.view_is c.self.invariant.right c.tree.ensures
