use Rattle.class_encoder.proofs.EncodedSpelled.{encoded_spells}
use Rattle.class_encoder.proofs.encoding.encoded_trees_spell.Goals as goal

pub returns : goal.returns
returns c = encoded_spells
