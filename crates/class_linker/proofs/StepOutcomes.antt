-- What is done one after the other, and what such steps come to.
use Rattle.std.proofs.Common.{◌≡◌, ℕ, List, [], ◌∷◌, ◌++◌, Option, Some, None, refl, sym, ◌∙◌, ap, subst, append_assoc}
use Rattle.std.proofs.lemmas.List.{append-nil}
use Rattle.jsa_base.specs.declared.quantity.Quantity.{Quantity}
use Rattle.class_record.specs.declared.fault.JavaFault.{JavaFault}
use Rattle.class_record.specs.declared.fault.ClassesFault.{ClassesFault}
use Rattle.class_record.specs.declared.fault.ClassesFault.TheVariants.{Read, Limit, Memory}
use Rattle.class_record.specs.Files.{Name}
use Rattle.class_record.specs.Loading.{Event, Begins, Outcome, nothing, after_fault, and_then, begins}
use Rattle.class_record.specs.Worlds.{ClassWorld}
use Rattle.class_record.specs.Calls.{Progress, Leaves, Stops, passed}
use Rattle.class_record.proofs.Leaving.{leaves_both, leaves_nothing, passed_append, passed_first}
use Rattle.class_linker.specs.Steps.{Leads, Comes}

-- ---- the one, then the other

same_outcome : (fault : Option JavaFault) (d e : List Event) → d ≡ e → ◌≡◌ {A = Outcome} (record { fault = fault; events = d }) (record { fault = fault; events = e })
same_outcome fault d e h = ap (λ (es : List Event). let o : Outcome = record { fault = fault; events = es } in o) h

assoc_inner : (d : List Event) (o : Option JavaFault) (e : List Event) (c : Outcome)
    → and_then (and_then (record { fault = None; events = d }) (record { fault = o; events = e })) c ≡ and_then (record { fault = None; events = d }) (and_then (record { fault = o; events = e }) c)
assoc_inner d (Some fault) e c = refl
assoc_inner d None e c = same_outcome c.fault ((d ++ e) ++ c.events) (d ++ (e ++ c.events)) (append_assoc d e c.events)

assoc_outer : (o : Option JavaFault) (d : List Event) (b c : Outcome)
    → and_then (and_then (record { fault = o; events = d }) b) c ≡ and_then (record { fault = o; events = d }) (and_then b c)
assoc_outer (Some fault) d b c = refl
assoc_outer None d b c = assoc_inner d b.fault b.events c

pub then_assoc : (a b c : Outcome) → and_then (and_then a b) c ≡ and_then a (and_then b c)
then_assoc a b c = assoc_outer a.fault a.events b c

nothing_by : (o : Option JavaFault) (d : List Event) → and_then (record { fault = o; events = d }) nothing ≡ record { fault = o; events = d }
nothing_by (Some fault) d = refl
nothing_by None d = same_outcome None (d ++ []) d (append-nil d)

pub then_nothing : (a : Outcome) → and_then a nothing ≡ a
then_nothing a = nothing_by a.fault a.events

pub ok_then : (a b : Outcome) → a.fault ≡ None → and_then a b ≡ record { fault = b.fault; events = a.events ++ b.events }
ok_then a b h = ap (λ (o : Option JavaFault). after_fault o a b) h

pub fault_then : (fault : JavaFault) (a b : Outcome) → a.fault ≡ Some fault → and_then a b ≡ a
fault_then fault a b h = ap (λ (o : Option JavaFault). after_fault o a b) h

begins_by : (name : Name) (o : Option JavaFault) (d : List Event) (b : Outcome) → and_then (begins name (record { fault = o; events = d })) b ≡ begins name (and_then (record { fault = o; events = d }) b)
begins_by name (Some fault) d b = refl
begins_by name None d b = refl

-- What begins with a name still does where more follows.
pub begins_then : (name : Name) (a b : Outcome) → and_then (begins name a) b ≡ begins name (and_then a b)
begins_then name a b = begins_by name a.fault a.events b

-- ---- what steps come to

module _ (w : ClassWorld) where
  pub leads_leads : (a b c : Outcome) (x y z : Progress) → Leads w a b x y → Leads w b c y z → Leads w a c x z
  leads_leads a b c x y z h k = record {
    events = h.events ++ k.events;
    fault = h.fault ∙ k.fault;
    whole = h.whole ∙ ap (λ (es : List Event). h.events ++ es) k.whole ∙ sym (append_assoc h.events k.events c.events);
    leaves = leaves_both w h.events k.events x y z h.leaves k.leaves;
  }

  pub leads_comes : (a b : Outcome) (fault : Option JavaFault) (x y z : Progress) → Leads w a b x y → Comes w b fault y z → Comes w a fault x z
  leads_comes a b fault x y z h k = record {
    fault_is = h.fault ∙ k.fault_is;
    leaves = subst (λ (es : List Event). Leaves w es x z) (sym h.whole) (leaves_both w h.events b.events x y z h.leaves k.leaves);
  }

  pub leads_stops : (a b : Outcome) (fault : ClassesFault) (x y : Progress) → Leads w a b x y → Stops w b y fault → Stops w a x fault
  leads_stops a b Read x y h k = tt
  leads_stops a b (Limit quantity limit) x y h k =
      ap (passed w x.order) h.whole
      ∙ passed_append w x.order h.events b.events (quantity, limit) h.leaves.limits (ap (λ (o : List Name). passed w o b.events) (sym h.leaves.order) ∙ k)
  leads_stops a b Memory x y h k = tt

  -- where there is nothing to be done
  pub leads_same : (a : Outcome) (x : Progress) → Leads w a a x x
  leads_same a x = record { events = []; fault = refl; whole = refl; leaves = leaves_nothing w x }

  -- where the first part was Ok, the rest is left
  pub ok_leads : (a b : Outcome) (x y : Progress) → Comes w a None x y → Leads w (and_then a b) b x y
  ok_leads a b x y h = record {
    events = a.events;
    fault = ap (λ (o : Outcome). o.fault) (ok_then a b h.fault_is);
    whole = ap (λ (o : Outcome). o.events) (ok_then a b h.fault_is);
    leaves = h.leaves;
  }

  pub begins_leads : (name : Name) (a : Outcome) (x y : Progress) → Leaves w (Begins name ∷ []) x y → Leads w (begins name a) a x y
  begins_leads name a x y h = record { events = Begins name ∷ []; fault = refl; whole = refl; leaves = h }

  -- a name begins, and then more is left
  pub begun_leads : (name : Name) (load a b : Outcome) (x y : Progress) → load ≡ begins name a → Leaves w (Begins name ∷ []) x y → Leads w (and_then load b) (and_then a b) x y
  begun_leads name load a b x y e h =
      subst (λ (o : Outcome). Leads w o (and_then a b) x y) (sym (ap (λ (o : Outcome). and_then o b) e ∙ begins_then name a b)) (begins_leads name (and_then a b) x y h)

  limit_first : (o : Option JavaFault) (d : List Event) (b : Outcome) (order : List Name) (limit : Quantity × ℕ) → passed w order d ≡ Some limit
      → passed w order (and_then (record { fault = o; events = d }) b).events ≡ Some limit
  limit_first (Some fault) d b order limit h = h
  limit_first None d b order limit h = passed_first w order d b.events limit h

  -- a limit that the first part passes ends the whole
  pub stops_first : (a b : Outcome) (fault : ClassesFault) (x : Progress) → Stops w a x fault → Stops w (and_then a b) x fault
  stops_first a b Read x h = tt
  stops_first a b (Limit quantity limit) x h = limit_first a.fault a.events b x.order (quantity, limit) h
  stops_first a b Memory x h = tt
