use Rattle.std.proofs.Common.{◌∙◌}
use Rattle.std.specs.String.{string_bytes}
use Rattle.asm_text.proofs.PathWords.{has_path_as}
use Rattle.asm_text.proofs.words.has_path.Goals as goal

pub returns : goal.returns
returns c = c.is_some.ensures ∙ has_path_as string_bytes _ c.args.name.now c.in_ok-path.path c.in_ok-path.ensures
