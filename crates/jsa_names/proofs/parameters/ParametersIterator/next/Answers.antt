use Rattle.std.proofs.Common.{◌≡◌, None, [], ◌∷◌, length, ap, sym, ◌∙◌, rules}
use Rattle.jsa_names.specs.Types.{field_shown, type_at, front_types}
use Rattle.jsa_names.proofs.Runs.{front_goes, front_stops}
use Rattle.jsa_names.proofs.parameters.ParametersIterator.next.Goals as goal

pub returns-in_default-clause-steps : goal.returns-in_default-clause-steps
returns-in_default-clause-steps c =
    let none : type_at c.self.inside.rest.now ≡ None = sym (rw c.in_default.is at c.first_type.ensures) in
    let nothing : c.args.self.now ≡ [] = sym c.self.view_is ∙ front_stops c.self.inside.rest.now none in
    (nothing, nothing)

pub returns-clause-steps : goal.returns-clause-steps
returns-clause-steps c = sym c.self.view_is ∙ front_goes c.self.inside.rest.now (field_shown c.in-Some.first) c.in-Some.rest.now (sym c.in-Some.ensures)

pub returns-clause-goes : goal.returns-clause-goes
returns-clause-goes c =
    let step : c.args.self.now ≡ field_shown c.in-Some.first ∷ front_types c.in-Some.rest.now = sym c.self.view_is ∙ front_goes c.self.inside.rest.now (field_shown c.in-Some.first) c.in-Some.rest.now (sym c.in-Some.ensures) in
    let shorter = ap length step in
    search rules
