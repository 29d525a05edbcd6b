use Rattle.std.proofs.Common.{ap}
use Rattle.jsa_files.specs.Memory.{StoreState}
use Rattle.jsa_files.proofs.MemoryStore.{listed}
use Rattle.jsa_files.proofs.memory.MemoryFiles.class_names.Goals as goal

pub returns-clause-answer : goal.returns-clause-answer
returns-clause-answer c = listed c.args.self.now c.self.inside.files.entries c.args.folder.now c.class_names.result (ap (λ (m : StoreState). m.contents) c.self.view_is) c.ascends.ensures c.class_names.ensures.answer
