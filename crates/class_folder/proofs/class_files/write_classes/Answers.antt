use Rattle.std.proofs.Common.{◌∙◌, ◌-◌, ℕ, length, take, drop, subst}
use Rattle.std.specs.Prelude.{Ok, Err}
use Rattle.jsa_files.specs.Told.{contents_told}
use Rattle.class_folder.specs.ClassFiles.{files_of, WritesFiles}
use Rattle.class_folder.proofs.ClassFiles.{first_of, turned, stopped, none_left}
use Rattle.class_folder.proofs.class_files.write_classes.Goals as goal

pub returns-in_default-clause-writes : goal.returns-in_default-clause-writes
returns-in_default-clause-writes g c =
    let now = contents_told (g.F.Files.store c.loop-rest.files) in
    c.loop-rest.invariant.follows now 0 (Ok tt) (none_left c.args.folder.now c.loop-rest.rest.now now c.in_default.len_below)

pub loop-rest-preserved : goal.loop-rest-preserved
loop-rest-preserved g c =
    let rest = c.loop-rest.rest.now in
    let more = take (length rest - 1) (drop 1 rest) in
    let old = contents_told (g.F.Files.store c.loop-rest.files) in
    let mid = contents_told (g.F.Files.store c.write_class.new.files) in
    let cut = first_of rest c.tree-item.result c.tree-item.is c.in-len1-up.len_at_least in
    record {
      follows = λ new now result h. c.loop-rest.invariant.follows new now result
          (turned (Unit {0}) c.args.folder.now rest c.tree-item.result more old mid new (g.F.Files.write_faults c.loop-rest.files, now) result cut c.in-Ok.ensures.writes
          (subst (λ (f : ℕ). WritesFiles mid new (f, now) (files_of c.args.folder.now more) result) c.in-Ok.ensures.write_fault h));
      writes = c.in-Ok.ensures.write_fault ∙ c.loop-rest.invariant.writes;
      reads = c.in-Ok.ensures.reads ∙ c.loop-rest.invariant.reads;
      quiet = c.in-Ok.ensures.read_faults ∙ c.loop-rest.invariant.quiet;
      stays = λ h. c.loop-rest.invariant.stays (c.in-Ok.ensures.files_stay h);
    }

pub returns-in-Err-clause-writes : goal.returns-in-Err-clause-writes
returns-in-Err-clause-writes g c =
    let rest = c.loop-rest.rest.now in
    let more = take (length rest - 1) (drop 1 rest) in
    let old = contents_told (g.F.Files.store c.loop-rest.files) in
    let new = contents_told (g.F.Files.store c.write_class.new.files) in
    let failed = g.F.Files.write_faults c.write_class.new.files in
    let cut = first_of rest c.tree-item.result c.tree-item.is c.in-len1-up.len_at_least in
    c.loop-rest.invariant.follows new failed (Err c.in-Err.fault) (stopped (Unit {0}) c.args.folder.now rest c.tree-item.result more old new (g.F.Files.write_faults c.loop-rest.files, failed) c.in-Err.fault cut c.in-Err.ensures.writes)
