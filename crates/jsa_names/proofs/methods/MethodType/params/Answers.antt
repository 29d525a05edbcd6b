use Rattle.std.proofs.Common.{◌≡◌, ◌≤◌, length, ap, arith}
use Rattle.jsa_names.specs.Types.{JavaMethod, front_types}
use Rattle.jsa_names.proofs.Runs.{no_fewer_slots}
use Rattle.jsa_names.proofs.methods.MethodType.params.Goals as goal

pub returns-clause-few : goal.returns-clause-few
returns-clause-few c =
    let shown : front_types c.self.inside.parameters.now ≡ c.args.self.now.parameters = ap (λ (m : JavaMethod). m.parameters) c.self.view_is in
    let few : length (front_types c.self.inside.parameters.now) ≤ 255 = omega (arith, no_fewer_slots (front_types c.self.inside.parameters.now), c.self.invariant.0, c.self.invariant.1) in
    rw shown at few
