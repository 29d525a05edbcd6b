use Rattle.std.proofs.Common.{◌≡◌, ◌≤◌, ℕ, List, None, cond, length, subst, sym, ap, ◌∙◌}
use Rattle.class_tree.specs.declared.constant_pool.PoolEntry.{PoolEntry}
use Rattle.class_tree.specs.Entries.{is_wide}
use Rattle.pool_builder.specs.Known.{first_written, Knows}
use Rattle.pool_builder.specs.Needs.{added}
use Rattle.pool_builder.proofs.Places.{knows_more}
use Rattle.pool_builder.proofs.builder.PoolBuilder.put_last.Goals as goal

pub invariant_of-self-2 : goal.invariant_of-self-2
invariant_of-self-2 c =
    let pool : List PoolEntry = c.self.inside.entries.items in
    let kept : c.put_entry.new.entries.items ≡ added pool c.args.entry = c.put_entry.ensures ∙ ap (λ (p : List PoolEntry). added p c.args.entry) c.reserve.ensures.items in
    let none : first_written c.args.key.items pool ≡ None = ap (first_written c.args.key.items) c.self.view_is ∙ c.requires.fresh in
    let at : c.len-index.result ≡ length pool = c.len-index.ensures ∙ c.self.inside.entries.ok.0 in
    let room : c.len-index.result ≤ cond (is_wide c.args.entry) 65533 65534 = subst (λ (n : ℕ). c.len-index.result ≤ n) c.last_index.ensures c.if-index-last_index.false in
    subst (Knows c.note.new.places) (sym kept)
    (knows_more c.self.inside.places c.note.new.places c.args.entry pool c.args.key.items c.len-index.result c.self.invariant c.requires.key at room none c.in_ok-note.ensures.ok)
