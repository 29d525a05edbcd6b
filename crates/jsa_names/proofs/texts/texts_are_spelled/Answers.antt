use Rattle.jsa_names.proofs.Spelled.{text_takes, text_again}
use Rattle.jsa_names.proofs.texts.texts_are_spelled.Goals as goal

pub returns : goal.returns
returns c = λ units. (text_takes c.args.bytes.now units, text_again c.args.bytes.now units)
