use Rattle.std.proofs.Common.{sym, ◌∙◌, lit<}
use Rattle.std.proofs.lemmas.Iterator.Consumers.{YieldsList-end}
use Rattle.std.proofs.lemmas.Iterator.Splits.{YieldsList-from_str_split}
use Rattle.command_words.proofs.ClassPaths.{some_pieces}
use Rattle.command_words.proofs.home_words.folders_in.Goals as goal

pub returns : goal.returns
returns c =
    let all = YieldsList-end (YieldsList-from_str_split 58 c.args.path.now (lit< tt) (cc) (cc) (cc)) c.loop-folder.yielded _ c.loop-folder.yielded_by _ _ c.in-None.is c.next.ensures.steps in
    c.loop-folder.invariant ∙ all.0 ∙ sym (some_pieces c.args.path.now (sym c.if-is_empty.ensures))
