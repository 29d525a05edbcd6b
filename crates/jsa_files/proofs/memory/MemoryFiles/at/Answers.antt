use Rattle.std.proofs.Common.{None, Some, ap, sym, ◌∙◌}
use Rattle.std.specs.FinMap.{get}
use Rattle.jsa_files.specs.Memory.{StoreState}
use Rattle.jsa_files.proofs.MemoryStore.{contents_from}
use Rattle.jsa_files.proofs.memory.MemoryFiles.at.Goals as goal

pub returns-in-Some : goal.returns-in-Some
returns-in-Some c =
    ap (λ (m : StoreState). get m.contents c.args.path.now) (sym c.self.view_is)
    ∙ contents_from c.self.inside.files.entries c.args.path.now (Some c.in-Some.bytes.now) c.in-Some.ensures.value
    ∙ ap Some (sym c.as_slice.ensures.value)

pub returns-in-None : goal.returns-in-None
returns-in-None c =
    ap (λ (m : StoreState). get m.contents c.args.path.now) (sym c.self.view_is)
    ∙ contents_from c.self.inside.files.entries c.args.path.now None c.in-None.ensures.value
