use Rattle.std.proofs.Common.{◌≡◌, ℕ, ◌++◌, ◌-◌, ◌<◌, ◌≤◌, List, length, true, Ok}
use Rattle.class_record.specs.Worlds.{AsTold}
use Rattle.class_record.specs.Facts.{Facts, names_of}
use Rattle.class_record.specs.declared.start.Start.TheVariants as starts
use Rattle.class_record.specs.Starting.{LinksRequired}
use Rattle.vm_start.specs.Steps.{Leads}
use Rattle.vm_start.proofs.starting.start_run.Given as goal

abbrev pub invariant-loop-row : goal.invariant-loop-row
invariant-loop-row g l = record {
  number : 1 ≤ l.number;
  told :
      AsTold (g.C.Classes.world l.initial.classes) (λ w. Leads w l.main
      (record { order = names_of (g.C.Classes.classes l.initial.classes); begun = g.C.Classes.begun l.initial.classes; reads = g.C.Classes.reads l.initial.classes })
      (record { order = names_of (g.C.Classes.classes l.classes); begun = g.C.Classes.begun l.classes; reads = g.C.Classes.reads l.classes })
      l.number);
  grows : (more : List Facts) × (g.C.Classes.classes l.classes ≡ g.C.Classes.classes l.initial.classes ++ more);
  cause : g.C.Classes.read_faults l.classes ≡ g.C.Classes.read_faults l.initial.classes;
  stays : g.C.Classes.can_fail l.classes → g.C.Classes.can_fail l.initial.classes;
  writes : g.C.Classes.write_faults l.classes ≡ g.C.Classes.write_faults l.initial.classes;
  world : g.C.Classes.world l.classes ≡ g.C.Classes.world l.initial.classes;
  linked : LinksRequired (names_of (g.C.Classes.classes l.classes)) (g.C.Classes.linked l.classes) (Ok (starts.NoBoot l.number));
  still_linked : (id : ℕ) → g.C.Classes.linked l.initial.classes id ≡ true → g.C.Classes.linked l.classes id ≡ true;
  words : (id k : ℕ) → g.C.Classes.cached l.classes id k ≡ g.C.Classes.cached l.initial.classes id k;
  sources : (id : ℕ) → id < length (g.C.Classes.classes l.initial.classes) → g.C.Classes.archive l.classes id ≡ g.C.Classes.archive l.initial.classes id;
}

abbrev pub decreases-loop-row : goal.decreases-loop-row
decreases-loop-row g l = 39 - l.number
