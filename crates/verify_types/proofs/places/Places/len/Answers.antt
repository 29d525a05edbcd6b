use Rattle.std.proofs.Common.{ℕ, List, length, ◌∙◌, ap}
use Rattle.verify_rules.specs.Places.{instructions}
use Rattle.verify_types.proofs.Marked.{length-places}
use Rattle.verify_types.proofs.places.Places.len.Goals as goal

pub returns : goal.returns
returns c =
    c.len.ensures ∙ ap length c.self.invariant.places ∙ length-places (instructions c.self.inside.code.now).placed
    ∙ ap (λ (code : List ℕ). length (instructions code).placed) c.self.view_is
