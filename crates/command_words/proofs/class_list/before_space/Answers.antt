use Rattle.command_words.proofs.Names.{cut_at, not_cut}
use Rattle.command_words.proofs.class_list.before_space.Goals as goal

pub returns-in-Some : goal.returns-in-Some
returns-in-Some c = cut_at c.args.line.now c.in-Some.at c.in-Some.ensures.0 c.in-Some.ensures.1

pub returns-in-None : goal.returns-in-None
returns-in-None c = not_cut c.args.line.now c.in-None.ensures
