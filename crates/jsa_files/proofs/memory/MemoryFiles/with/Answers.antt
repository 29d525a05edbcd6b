use Rattle.std.proofs.Common.{◌≡◌, ℕ, List, ap, ◌∙◌}
use Rattle.std.specs.FinMap.{insert}
use Rattle.jsa_files.specs.Store.{Contents}
use Rattle.jsa_files.specs.Memory.{StoreState, contents_of, paths_of}
use Rattle.jsa_files.proofs.MemoryStore.{contents_insert}
use Rattle.jsa_files.proofs.memory.MemoryFiles.with.Goals as goal

pub returns-clause-ok : goal.returns-clause-ok
returns-clause-ok c =
    let files = c.self.inside.files.entries in
    let made : contents_of c.insert.new.self.entries ≡ insert (contents_of files) c.args.path.now c.args.bytes.now =
    ap contents_of c.in_ok-insert.ensures.entries
    ∙ contents_insert files c.in_ok-key.key c.in_ok-value.value
    ∙ ap (λ (k : List ℕ). insert (contents_of files) k c.in_ok-value.value.items) c.in_ok-key.ensures.ok
    ∙ ap (λ (v : List ℕ). insert (contents_of files) c.args.path.now v) c.in_ok-value.ensures.items in
    let put : StoreState → Contents → StoreState = λ s m. record { contents = m; reads = s.reads; read_faults = s.read_faults; write_faults = s.write_faults; plan = s.plan } in
    ap (put (record { contents = contents_of files; reads = paths_of c.self.inside.reads.items; read_faults = c.self.inside.read_faults; write_faults = c.self.inside.write_faults; plan = c.self.inside.plan })) made
    ∙ ap (λ (s : StoreState). put s (insert s.contents c.args.path.now c.args.bytes.now)) c.self.view_is
