use Rattle.std.proofs.Common.{ap, sym, ◌∙◌, rules, tests, lit<}
use Rattle.std.specs.List.{list_all}
use Rattle.std.proofs.lemmas.Iterator.Search.{all_from_yields_List}
use Rattle.std.proofs.lemmas.Iterator.Splits.{YieldsList-from_str_split}
use Rattle.command_words.specs.Words.{is_piece}
use Rattle.command_words.proofs.ClassPaths.{some_pieces}
use Rattle.command_words.proofs.home_words.has_folders.Goals as goal

pub returns : goal.returns
returns c =
    all_from_yields_List is_piece _ _ _ c.all.ensures.ran
    (YieldsList-from_str_split 58 c.args.path.now (lit< tt) c.split.ensures.text c.split.ensures.has_more c.split.ensures.pattern)
    (λ x b q k. search (rules, tests))
    ∙ ap (list_all is_piece) (sym (some_pieces c.args.path.now (sym c.if-is_empty.ensures)))
