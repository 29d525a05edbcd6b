use Rattle.std.proofs.Common.{sym, ◌∙◌, ap, length}
use Rattle.verify_rules.proofs.Tops.{length-top_first}
use Rattle.verify_rules.proofs.stack.TypeStack.len.Goals as goal

pub returns : goal.returns
returns c = c.len.ensures ∙ sym (length-top_first c.self.inside.items) ∙ ap length c.self.view_is
