use Rattle.class_linker.proofs.ReadingPlaces.{updated}
use Rattle.class_linker.proofs.readings.note.Goals as goal
use Rattle.class_linker.proofs.readings.note.Goals.{in-Ok, in-Err}

pub returns-clause-ok : goal.returns-clause-ok
returns-clause-ok c = elim c.match-insert.branch [
  | in-Ok w ↦ rw w.result-is (updated c.args.name c.args.place c.args.places.now c.insert.new.self w.in-Ok.ensures.updates)
  | in-Err w ↦ rw w.result-is tt
]
