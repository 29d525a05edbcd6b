use Rattle.std.proofs.Common.{◌∙◌, ℕ, sym, ap, subst, inr}
use Rattle.class_record.specs.Facts.{names_of}
use Rattle.class_linker.specs.Fresh.{FreshView, world_in}
use Rattle.class_linker.specs.Kept.{names_read}
use Rattle.class_record.specs.ClassList.{class_list}
use Rattle.home_run.specs.declared.end.HomeEnd.TheVariants as ended
use Rattle.command_words.specs.Requests.{home_view}
use Rattle.jsa_files.specs.Told.{contents_told}
use Rattle.home_run.specs.Answers.{AnswersRun, CountsReads, CountsWrites}
use Rattle.home_run.specs.Steps.{ClassesAnswer, ListAnswers, CountsList, progress_in}
use Rattle.home_run.proofs.Ending.{listed, other, counts_listed, counts_other}
use Rattle.home_run.proofs.running.run_over.Goals as goal

pub returns-in-Exit-clause-answer : goal.returns-in-Exit-clause-answer
returns-in-Exit-clause-answer g c =
    let r = home_view c.args.request.now in
    let store = g.F.Files.store in
    let was = c.args.classes in
    let mid = c.run_classes.new.classes in
    let world = ◌∙◌ {a = world_in (store mid.files) mid.folders} c.run_classes.ensures.world (ap (λ (v : FreshView g.row.F.Denot). world_in (store v.files) v.folders) c.requires.new) in
    let answer = subst (λ (v : FreshView g.row.F.Denot). ClassesAnswer (world_in (store v.files) v.folders) r.name r.steps (progress_in store v) (progress_in store mid) (g.O.Sink.taken c.args.out.now) (g.O.Sink.taken c.run_classes.new.out) ended.Exit) c.requires.new c.in-Exit.ensures.answer in
    let list = subst (λ (n : ℕ). ListAnswers (contents_told (store mid.files)) (contents_told (store c.list_classes.result.1)) (n, g.F.Files.write_faults c.list_classes.result.1) r.list (class_list (names_of mid.loaded.classes)) c.list_classes.result.0) c.run_classes.ensures.writes c.list_classes.ensures.answer in
    listed (store was.files) (store mid.files) (store c.list_classes.result.1) mid.folders r (names_of mid.loaded.classes) (names_read mid.readings) (g.F.Files.write_faults was.files, g.F.Files.write_faults c.list_classes.result.1) (g.O.Sink.taken c.args.out.now) (g.O.Sink.taken c.run_classes.new.out) c.list_classes.result.0
    world c.list_classes.ensures.reads answer list

pub returns-in-Exit-clause-write_fault : goal.returns-in-Exit-clause-write_fault
returns-in-Exit-clause-write_fault g c =
    counts_listed (g.F.Files.write_faults c.args.classes.files) (g.F.Files.write_faults c.list_classes.result.1) (g.O.Sink.faults c.args.out.now) (g.O.Sink.faults c.run_classes.new.out) c.list_classes.result.0 c.in-Exit.ensures.write_fault
    (subst (λ (n : ℕ). CountsList n (g.F.Files.write_faults c.list_classes.result.1) c.list_classes.result.0) c.run_classes.ensures.writes c.list_classes.ensures.write_fault)

pub returns-in_default : goal.returns-in_default
returns-in_default g c =
    let r = home_view c.args.request.now in
    let store = g.F.Files.store in
    let was = c.args.classes in
    let mid = c.run_classes.new.classes in
    let before = g.O.Sink.taken c.args.out.now in
    let after = g.O.Sink.taken c.run_classes.new.out in
    let world = ◌∙◌ {a = world_in (store mid.files) mid.folders} c.run_classes.ensures.world (ap (λ (v : FreshView g.row.F.Denot). world_in (store v.files) v.folders) c.requires.new) in
    let answer = subst (λ (v : FreshView g.row.F.Denot). ClassesAnswer (world_in (store v.files) v.folders) r.name r.steps (progress_in store v) (progress_in store mid) before after c.run_classes.result) c.requires.new c.run_classes.ensures.answer in
    let wf = g.F.Files.write_faults in
    let end = c.run_classes.result in
    let is = sym c.into_files.ensures in
    record {
      answer = subst (λ (f : g.row.F.Denot). AnswersRun (store was.files) (store f) (wf was.files, wf f) r before after end) is
          (other (store was.files) (store mid.files) mid.folders r (names_of mid.loaded.classes) (names_read mid.readings) (wf was.files, wf mid.files) before after end c.in_default.not-Exit world answer);
      read_fault = subst (λ (f : g.row.F.Denot). CountsReads (g.F.Files.read_faults was.files) (g.F.Files.read_faults f) end) is c.run_classes.ensures.read_fault;
      write_fault = subst (λ (f : g.row.F.Denot). CountsWrites (wf was.files) (wf f) (g.O.Sink.faults c.args.out.now) (g.O.Sink.faults c.run_classes.new.out) end) is
          (counts_other (wf was.files) (wf mid.files) (g.O.Sink.faults c.args.out.now) (g.O.Sink.faults c.run_classes.new.out) end c.run_classes.ensures.writes c.run_classes.ensures.write_fault);
      read_can_fail = c.run_classes.ensures.read_can_fail;
      write_can_fail = λ e. inr (c.run_classes.ensures.write_can_fail e);
      files_stay = λ h. c.run_classes.ensures.files_stay (subst (λ (f : g.row.F.Denot). g.F.Files.can_fail f) c.into_files.ensures h);
      out_stays = c.run_classes.ensures.out_stays;
    }
