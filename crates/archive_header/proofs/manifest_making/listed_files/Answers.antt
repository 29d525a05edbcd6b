use Rattle.std.proofs.Common.{◌∙◌, arith}
use Rattle.archive_header.proofs.Listed.{front_more, front_all}
use Rattle.archive_header.proofs.FileTurns.{file_turned, file_stopped}
use Rattle.archive_header.proofs.manifest_making.listed_files.Goals as goal

pub returns-in-Err-clause-answer : goal.returns-in-Err-clause-answer
returns-in-Err-clause-answer g c =
    file_stopped (g.F.Files.store c.args.files.now) (g.F.Files.store c.loop-k.files) c.args.folder.now c.loop-k.listed c.args.names.now c.loop-k.k c.at.result.now c.at.ensures c.loop-k.invariant.store c.loop-k.invariant.told
    c.push_listed.new.listed c.in-Err.fault c.in-Err.ensures.answer

pub loop-k-preserved : goal.loop-k-preserved
loop-k-preserved g c = record {
  told = file_turned (g.F.Files.store c.args.files.now) (g.F.Files.store c.loop-k.files) c.args.folder.now c.loop-k.listed c.args.names.now c.loop-k.k c.at.result.now c.at.ensures c.loop-k.invariant.store c.loop-k.invariant.told
      c.push_listed.new.listed c.in-Ok.ensures.answer;
  front = front_more c.loop-k.listed c.push_listed.new.listed c.args.names.now c.loop-k.k c.at.result.now c.at.ensures c.in-Ok.ensures.adds c.loop-k.invariant.front;
  store = c.in-Ok.ensures.store ∙ c.loop-k.invariant.store;
  quiet = c.in-Ok.ensures.cause ∙ c.loop-k.invariant.quiet;
  stays = λ h. c.loop-k.invariant.stays (c.in-Ok.ensures.stays h);
  writes = c.in-Ok.ensures.writes ∙ c.loop-k.invariant.writes;
}

pub returns-clause-names : goal.returns-clause-names
returns-clause-names g c = front_all c.loop-k.listed c.args.names.now c.loop-k.k (omega arith) c.loop-k.invariant.front
