use Rattle.std.proofs.Common.{ap, ◌∙◌}
use Rattle.jsa_names.specs.Types.{method_type_of}
use Rattle.jsa_names.proofs.MethodSpelled.{method_takes, method_again}
use Rattle.jsa_names.proofs.methods.method_types_are_spelled.Goals as goal

pub returns : goal.returns
returns c = λ m. (method_takes c.args.bytes.now m, λ h. ap method_type_of h.0 ∙ method_again m h.1)
