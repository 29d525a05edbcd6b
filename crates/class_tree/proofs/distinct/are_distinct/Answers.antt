use Rattle.std.proofs.Common.{ap, sym, ◌∙◌}
use Rattle.std.specs.List.{list_any}
use Rattle.std.specs.BTreeMap.{is_at}
use Rattle.std.specs.BTreeSet.{contains}
use Rattle.class_tree.specs.TextPlaces.{is_same_key}
use Rattle.class_tree.specs.WellFormed.{are_distinct}
use Rattle.class_tree.proofs.DistinctKeys.{begins, after, stopped, ended}
use Rattle.class_tree.proofs.distinct.are_distinct.Goals as goal

pub loop-rest-init : goal.loop-rest-init
loop-rest-init g c = begins g.K.Ord.cmp (contains g.K.Ord.cmp c.new-seen.result) c.args.keys.now (λ k. ap (list_any (is_at (g.K.Ord.cmp k))) c.new-seen.ensures.empty)

pub returns-in_default : goal.returns-in_default
returns-in_default g c = ended g.K.Ord.cmp c.loop-rest.rest.now (contains g.K.Ord.cmp c.loop-rest.seen) (are_distinct (is_same_key g.K.Ord.cmp) c.args.keys.now) c.in_default.len_below c.loop-rest.invariant

pub returns-then-not-is_new : goal.returns-then-not-is_new
returns-then-not-is_new g c =
    stopped g.K.Ord.cmp c.loop-rest.rest.now c.key-item.result (contains g.K.Ord.cmp c.loop-rest.seen) (are_distinct (is_same_key g.K.Ord.cmp) c.args.keys.now) c.in-len1-up.len_at_least c.key-item.is
    (sym c.if-not-is_new.true ∙ c.in-Ok.ensures.new) c.loop-rest.invariant

pub loop-rest-preserved : goal.loop-rest-preserved
loop-rest-preserved g c =
    after g.K.Ord.cmp c.loop-rest.rest.now c.key-item.result (contains g.K.Ord.cmp c.loop-rest.seen) (contains g.K.Ord.cmp c.add.new.seen) (are_distinct (is_same_key g.K.Ord.cmp) c.args.keys.now) c.in-len1-up.len_at_least c.key-item.is
    c.in-Ok.ensures.seen (sym c.if-not-is_new.false ∙ c.in-Ok.ensures.new) c.loop-rest.invariant
