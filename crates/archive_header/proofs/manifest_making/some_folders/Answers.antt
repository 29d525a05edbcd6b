use Rattle.std.proofs.Common.{◌∙◌}
use Rattle.archive_header.proofs.FoldersMade.{made_more, paths_more}
use Rattle.archive_header.proofs.FolderTurns.{folder_turned, folder_stopped}
use Rattle.archive_header.proofs.manifest_making.some_folders.Goals as goal

pub returns-in-Err-clause-answer : goal.returns-in-Err-clause-answer
returns-in-Err-clause-answer g c =
    folder_stopped (g.F.Files.store c.args.files.now) (g.F.Files.store c.loop-k.files) c.args.count.now c.loop-k.count c.push_folder.new.count c.loop-k.folders c.push_folder.new.folders c.args.paths.now c.loop-k.k c.at.result.now c.at.ensures c.loop-k.invariant.store c.loop-k.invariant.told
    c.push_folder.new.count c.in-Err.fault c.in-Err.ensures.answer

pub loop-k-preserved : goal.loop-k-preserved
loop-k-preserved g c = record {
  told = folder_turned (g.F.Files.store c.args.files.now) (g.F.Files.store c.loop-k.files) c.args.count.now c.loop-k.count c.push_folder.new.count c.loop-k.folders c.push_folder.new.folders c.args.paths.now c.loop-k.k c.at.result.now c.at.ensures c.loop-k.invariant.store c.loop-k.invariant.told
      c.in-Ok.ensures.answer;
  paths = paths_more c.at.result.now c.loop-k.count c.push_folder.new.count c.loop-k.folders c.push_folder.new.folders c.args.paths.now c.loop-k.k c.at.ensures c.in-Ok.ensures.made c.loop-k.invariant.paths;
  made = made_more c.at.result.now c.args.count.now c.loop-k.count c.push_folder.new.count c.loop-k.folders c.push_folder.new.folders c.loop-k.invariant.made c.in-Ok.ensures.made;
  few = c.in-Ok.ensures.few;
  store = c.in-Ok.ensures.store ∙ c.loop-k.invariant.store;
  quiet = c.in-Ok.ensures.cause ∙ c.loop-k.invariant.quiet;
  stays = λ h. c.loop-k.invariant.stays (c.in-Ok.ensures.stays h);
  writes = c.in-Ok.ensures.writes ∙ c.loop-k.invariant.writes;
}
