-- What the load, the link and the look at one required class come to.
use Rattle.std.proofs.Common.{◌≡◌, List, ◌++◌, Bool, false, ◌&&◌, Option, Some, None, Result, Ok, Err, refl, sym, subst, ◌∙◌, ap}
use Rattle.std.specs.Prelude.{is_none}
use Rattle.loader_rules.specs.declared.loader.Loader.TheVariants.{Boot}
use Rattle.class_record.specs.declared.facts.ClassId.{ClassId}
use Rattle.class_record.specs.declared.fault.JavaFault.{JavaFault}
use Rattle.class_record.specs.declared.fault.ClassesFault.{ClassesFault}
use Rattle.class_record.specs.declared.fault.ClassesFault.TheVariants.{Read, Limit, Memory}
use Rattle.class_record.specs.Files.{Name}
use Rattle.class_record.specs.Loading.{Event, Outcome, and_then, after_fault}
use Rattle.class_record.specs.Worlds.{ClassWorld, World, AsTold}
use Rattle.class_record.specs.Calls.{Progress, Leaves, Stops, AnswersLoad, passed}
use Rattle.class_record.proofs.Leaving.{leaves_both, passed_behind, passed_first}
use Rattle.class_record.specs.Required.{Required}
use Rattle.class_record.specs.Starting.{is_as_asked, fetch}
use Rattle.vm_start.specs.Steps.{AnswersTest}
use Rattle.vm_start.proofs.Tellings.{told_one, told_two}

-- ---- the load, and then the link

and_both : (a b : Outcome) → a.fault ≡ None → and_then a b ≡ (record { fault = b.fault; events = a.events ++ b.events })
and_both a b h = ap (λ (o : Option JavaFault). after_fault o a b) h

and_first : (a b : Outcome) (fault : JavaFault) → a.fault ≡ Some fault → and_then a b ≡ a
and_first a b fault h = ap (λ (o : Option JavaFault). after_fault o a b) h

-- A limit that is passed behind these events is passed by all of them.
pub stops_behind : (w : ClassWorld) (d : List Event) (o : Outcome) (a b : Progress) (fault : ClassesFault) → Leaves w d a b → Stops w o b fault → Stops w (record { fault = o.fault; events = d ++ o.events }) a fault
stops_behind w d o a b Read h k = tt
stops_behind w d o a b (Limit quantity limit) h k =
    passed_behind w a.order d o.events h.limits ∙ ap (λ (order : List Name). passed w order o.events) (sym h.order) ∙ k
stops_behind w d o a b Memory h k = tt

-- and one that these events pass is passed by all.
pub stops_first : (w : ClassWorld) (o : Outcome) (rest : List Event) (fault : Option JavaFault) (a : Progress) (stop : ClassesFault) → Stops w o a stop → Stops w (record { fault = fault; events = o.events ++ rest }) a stop
stops_first w o rest fault a Read h = tt
stops_first w o rest fault a (Limit quantity limit) h = passed_first w a.order o.events rest (quantity, limit) h
stops_first w o rest fault a Memory h = tt

test_both : (w : ClassWorld) (r : Required) (d : List Event) (o : Outcome) (a b c : Progress) (result : Result Bool ClassesFault) → Leaves w d a b → AnswersTest w r o b c result
    → AnswersTest w r (record { fault = o.fault; events = d ++ o.events }) a c result
test_both w r d o a b c (Ok good) h k = (k.0, leaves_both w d o.events a b c h k.1)
test_both w r d o a b c (Err fault) h k = stops_behind w d o a b fault h k

pub test_behind : (w : ClassWorld) (r : Required) (o p : Outcome) (a b c : Progress) (result : Result Bool ClassesFault) → o.fault ≡ None → Leaves w o.events a b → AnswersTest w r p b c result
    → AnswersTest w r (and_then o p) a c result
test_behind w r o p a b c result e h k = subst (λ (q : Outcome). AnswersTest w r q a c result) (sym (and_both o p e)) (test_both w r o.events p a b c result h k)

pub test_fails : (w : ClassWorld) (r : Required) (o p : Outcome) (fault : JavaFault) (a b : Progress) → o.fault ≡ Some fault → Leaves w o.events a b → AnswersTest w r (and_then o p) a b (Ok false)
test_fails w r o p fault a b e h =
    subst (λ (q : Outcome). AnswersTest w r q a b (Ok false)) (sym (and_first o p fault e)) (ap (λ (f : Option JavaFault). is_none f && is_as_asked r (w.class r.name)) (sym e), h)

stops_by : (w : ClassWorld) (o p : Outcome) (a : Progress) (stop : ClassesFault) (f : Option JavaFault) → o.fault ≡ f → Stops w o a stop → Stops w (and_then o p) a stop
stops_by w o p a stop None e h = subst (λ (q : Outcome). Stops w q a stop) (sym (and_both o p e)) (stops_first w o p.events p.fault a stop h)
stops_by w o p a stop (Some fault) e h = subst (λ (q : Outcome). Stops w q a stop) (sym (and_first o p fault e)) h

-- ---- where the world is told

pub fetch_stops : (world : World) (r : Required) (name : Name) (a : Progress) (stop : ClassesFault) → name ≡ r.name
    → AsTold world (λ w. Stops w (w.load Boot name) a stop) → AsTold world (λ w. Stops w (fetch w r) a stop)
fetch_stops world r name a stop e h =
    told_one world (λ w. Stops w (w.load Boot name) a stop) (λ w. Stops w (fetch w r) a stop)
    (λ w k. stops_by w (w.load Boot r.name) (w.link r.name) a stop (w.load Boot r.name).fault refl (subst (λ (n : Name). Stops w (w.load Boot n) a stop) e k)) h

loaded_then : (w : ClassWorld) (r : Required) (name : Name) (a b c : Progress) (id : ClassId) (result : Result Bool ClassesFault) → name ≡ r.name
    → AnswersLoad w Boot name a b (Ok (Ok id)) → AnswersTest w r (w.link r.name) b c result → AnswersTest w r (fetch w r) a c result
loaded_then w r name a b c id result e h k =
    test_behind w r (w.load Boot r.name) (w.link r.name) a b c result
    (subst (λ (n : Name). (w.load Boot n).fault ≡ None) e h.0) (subst (λ (n : Name). Leaves w (w.load Boot n).events a b) e h.2) k

pub fetch_behind : (world v : World) (r : Required) (name : Name) (a b c : Progress) (id : ClassId) (result : Result Bool ClassesFault) → name ≡ r.name → v ≡ world
    → AsTold world (λ w. AnswersLoad w Boot name a b (Ok (Ok id))) → AsTold v (λ w. AnswersTest w r (w.link r.name) b c result) → AsTold world (λ w. AnswersTest w r (fetch w r) a c result)
fetch_behind world v r name a b c id result e same h k =
    told_two world v (λ w. AnswersLoad w Boot name a b (Ok (Ok id))) (λ w. AnswersTest w r (w.link r.name) b c result) (λ w. AnswersTest w r (fetch w r) a c result)
    same (λ w. loaded_then w r name a b c id result e) h k
