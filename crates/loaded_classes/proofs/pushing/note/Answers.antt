use Rattle.std.proofs.Common.{ℕ, List, Some, cond, ap, ◌∙◌}
use Rattle.std.specs.Str.{bytes_eq}
use Rattle.loaded_classes.specs.Held.{known_at}
use Rattle.loaded_classes.proofs.Places.{updated}
use Rattle.loaded_classes.proofs.pushing.note.Goals as goal

pub returns-clause-ok : goal.returns-clause-ok
returns-clause-ok c = λ (other : List ℕ).
    updated c.in_ok-name.name c.args.id c.args.places.now c.insert.new.self c.in-Ok.ensures.updates other
    ∙ ap (λ (n : List ℕ). cond (bytes_eq n other) (Some c.args.id) (known_at c.args.places.now other)) c.in_ok-name.ensures.items
