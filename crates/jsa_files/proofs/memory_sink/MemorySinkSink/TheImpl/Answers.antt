use Rattle.std.proofs.Common.{arith}
use Rattle.std.proofs.lemmas.Bool.Decides.{nat_tests}
use Rattle.jsa_files.proofs.PlannedPuts.{put_takes}
use Rattle.jsa_files.proofs.memory_sink.MemorySinkSink.TheImpl.Goals as goal

pub put-tells : goal.put-tells
put-tells c =
    record {
      taken = put_takes c.args.self.now c.new.self.now c.args.bytes.now c.result c.ensures.after;
      failed = grind (arith, nat_tests);
      stays = grind (arith, nat_tests);
      cause = grind (arith, nat_tests);
    }
