use Rattle.std.proofs.Common.{◌<◌, length, subst, arith}
use Rattle.loaded_classes.specs.Table.{ClassTable, row_at}
use Rattle.loaded_classes.proofs.Kept.{kept_by_word, word_within, is_within}
use Rattle.loaded_classes.proofs.table.LoadedClasses.set_word.Goals as goal

pub set_word_in-requires-clause-k : goal.set_word_in-requires-clause-k
set_word_in-requires-clause-k c =
    let at : c.args.k < length (row_at c.self.inside.words.items c.args.id.0) =
    word_within c.self.inside.classes.items c.self.inside.linked.items c.self.inside.words.items c.self.inside.places c.self.invariant c.args.self.now c.args.id.0 c.args.k c.self.view_is c.requires.within in
    omega (arith, at, c.from.ensures)

pub invariant_of-self : goal.invariant_of-self
invariant_of-self c =
    let less : c.args.id.0 < length c.self.inside.words.items =
    is_within c.self.inside.classes.items c.self.inside.linked.items c.self.inside.words.items c.self.inside.places c.self.invariant c.args.self.now c.args.id.0 c.self.view_is c.requires.loaded in
    rw (c.set_word_in.ensures.items, c.from.ensures) (kept_by_word c.self.inside.classes.items c.self.inside.linked.items c.self.inside.words.items c.self.inside.places c.self.invariant c.args.id.0 c.args.k c.args.value less)

pub returns-clause-rows : goal.returns-clause-rows
returns-clause-rows c =
    subst (λ (t : ClassTable). c.args.k < length (row_at t.words c.args.id.0)) c.self.view_is
    (word_within c.self.inside.classes.items c.self.inside.linked.items c.self.inside.words.items c.self.inside.places c.self.invariant c.args.self.now c.args.id.0 c.args.k c.self.view_is c.requires.within)
