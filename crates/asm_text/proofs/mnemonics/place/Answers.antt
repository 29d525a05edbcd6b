use Rattle.std.proofs.Common.{rules, tests}
use Rattle.std.specs.Prelude.{◌==◌}
use Rattle.std.specs.Str.{bytes_eq}
use Rattle.std.proofs.lemmas.Iterator.Search.{position_from_yields_List}
use Rattle.std.proofs.lemmas.Iterator.Splits.{YieldsList-from_slice_split}
use Rattle.asm_text.specs.Mnemonics.{words}
use Rattle.asm_text.proofs.mnemonics.place.Goals as goal

pub returns : goal.returns
unfolding words
returns c =
    position_from_yields_List (bytes_eq c.args.word.now) _ _ _ c.position.ensures.ran
    (YieldsList-from_slice_split _ (λ b. b == 32) c.args.names.now c.split.ensures.rest c.split.ensures.done c.split.ensures.closure (λ x b q k. search (rules, tests)))
    (λ x b q k. search (rules, tests))
