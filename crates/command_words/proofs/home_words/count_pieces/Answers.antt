use Rattle.std.proofs.Common.{ℕ, List, length, ap, sym, ◌∙◌, lit<}
use Rattle.std.proofs.lemmas.Iterator.Consumers.{count_from_yields_List}
use Rattle.std.proofs.lemmas.Iterator.Splits.{YieldsList-from_str_split}
use Rattle.command_words.proofs.ClassPaths.{some_pieces}
use Rattle.command_words.proofs.home_words.count_pieces.Goals as goal

pub returns : goal.returns
returns c =
    count_from_yields_List c.split.result c.count.result c.count.ensures.ran
    (YieldsList-from_str_split 58 c.args.path.now (lit< tt) c.split.ensures.text c.split.ensures.has_more c.split.ensures.pattern)
    ∙ ap (length {A = List ℕ}) (sym (some_pieces c.args.path.now (sym c.if-is_empty.ensures)))
