use Rattle.std.proofs.Common.{ap, ◌∙◌}
use Rattle.jsa_names.specs.Types.{field_type_of}
use Rattle.jsa_names.proofs.FieldSpelled.{field_takes, field_again}
use Rattle.jsa_names.proofs.descriptors.field_types_are_spelled.Goals as goal

pub returns : goal.returns
returns c = λ type. (field_takes c.args.bytes.now type, λ h. ap field_type_of h.0 ∙ field_again type h.1)
