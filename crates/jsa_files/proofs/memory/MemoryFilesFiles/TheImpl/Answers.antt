use Rattle.std.proofs.Common.{arith}
use Rattle.std.proofs.lemmas.Bool.Decides.{nat_tests}
use Rattle.jsa_files.proofs.PlannedWrites.{write_leaves}
use Rattle.jsa_files.proofs.memory.MemoryFilesFiles.TheImpl.Goals as goal

pub write-tells : goal.write-tells
write-tells c =
    record {
      store = write_leaves c.args.self.now c.new.self.now c.args.path.now c.args.bytes.now c.result c.ensures.planned c.ensures.after;
      cause = grind (arith, nat_tests);
      failed = grind (arith, nat_tests);
      stays = grind (arith, nat_tests);
      reads = grind (arith, nat_tests);
    }
