use Rattle.command_words.proofs.Numerals.{behind_of}
use Rattle.command_words.proofs.words.behind.Goals as goal

pub returns : goal.returns
returns c = behind_of c.args.front.now c.args.text.now c.strip_prefix.result c.strip_prefix.ensures.cases
