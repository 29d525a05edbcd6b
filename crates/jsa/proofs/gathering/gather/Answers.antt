use Rattle.std.proofs.Common.{◌∙◌, ◌+◌, sym, subst, rules, take, List, Option}
use Rattle.jsa_files.specs.Store.{Contents}
use Rattle.plain_classes.specs.declared.class.PlainClass.{PlainClass}
use Rattle.jsa.specs.declared.ended.Ended.TheVariants.{Memory}
use Rattle.jsa_files.specs.Told.{contents_told}
use Rattle.jsa.specs.Dumps.{HasClass, HasClasses}
use Rattle.jsa.specs.Steps.{texts_of, HasNot}
use Rattle.jsa.proofs.Gathers.{turned, stopped, named_at}
use Rattle.jsa.proofs.gathering.gather.Goals as goal

pub returns-in_default-clause-gathers : goal.returns-in_default-clause-gathers
returns-in_default-clause-gathers g c =
    stopped (contents_told (g.F.Files.store c.args.files.now)) c.args.folder.now (texts_of c.args.names.now) c.loop-place.place c.loop-place.classes c.subject_at.result.now Memory
    (named_at c.args.names.now c.loop-place.place c.subject_at.result.now (search rules) c.subject_at.ensures) c.loop-place.invariant.has tt

pub returns-in-Err-clause-gathers : goal.returns-in-Err-clause-gathers
returns-in-Err-clause-gathers g c =
    stopped (contents_told (g.F.Files.store c.args.files.now)) c.args.folder.now (texts_of c.args.names.now) c.loop-place.place c.loop-place.classes c.subject_at.result.now c.in-Err.ended
    (named_at c.args.names.now c.loop-place.place c.subject_at.result.now (search rules) c.subject_at.ensures) c.loop-place.invariant.has
    (subst (λ (o : Option Contents). HasNot o c.args.folder.now c.subject_at.result.now c.in-Err.ended) c.loop-place.invariant.contents c.in-Err.ensures.has)

pub loop-place-preserved : goal.loop-place-preserved
loop-place-preserved g c =
    let contents = contents_told (g.F.Files.store c.args.files.now) in
    let class = subst (λ (o : Option Contents). HasClass o c.args.folder.now c.subject_at.result.now c.in-Ok.class) c.loop-place.invariant.contents c.in-Ok.ensures.has in
    let more = turned contents c.args.folder.now (texts_of c.args.names.now) c.loop-place.place c.loop-place.classes c.subject_at.result.now c.in-Ok.class
    (named_at c.args.names.now c.loop-place.place c.subject_at.result.now (search rules) c.subject_at.ensures) c.loop-place.invariant.has class in
    record {
      has = subst (λ (l : List PlainClass). HasClasses contents c.args.folder.now (take (c.loop-place.place + 1) (texts_of c.args.names.now)) l) (sym c.in-Ok-push.ensures.ok) more;
      contents = c.in-Ok.ensures.contents ∙ c.loop-place.invariant.contents;
      quiet = c.in-Ok.ensures.counts ∙ c.loop-place.invariant.quiet;
      writes = c.in-Ok.ensures.writes ∙ c.loop-place.invariant.writes;
      stays = λ h. c.loop-place.invariant.stays (c.in-Ok.ensures.files_stay h);
    }
