use Rattle.std.proofs.Common.{sym, arith}
use Rattle.std.specs.Option.{option_copied}
use Rattle.std.proofs.lemmas.Option.{slice_get_past}
use Rattle.verify_rules.specs.Types.{top_first}
use Rattle.verify_rules.proofs.Tops.{length-top_first, shown_at}
use Rattle.verify_rules.proofs.stack.TypeStack.get.Goals as goal

pub returns-then-at-len : goal.returns-then-at-len
returns-then-at-len c =
    let m = length-top_first c.self.inside.items in
    rw (← c.self.view_is) (sym (slice_get_past (top_first c.self.inside.items) c.args.at (omega arith)))

pub returns : goal.returns
returns c =
    shown_at c.self.inside.items c.as_slice.result.now c.args.self.now c.args.at (option_copied c.from_end.result) c.self.view_is c.as_slice.ensures (omega arith) c.from_end.ensures
