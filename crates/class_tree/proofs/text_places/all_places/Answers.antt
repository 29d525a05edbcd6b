use Rattle.std.proofs.Common.{List, Option, ℕ, ◌-◌, length, take, drop, sym, subst, ◌∙◌}
use Rattle.class_tree.specs.TextPlaces.{known_at}
use Rattle.class_tree.proofs.Places.{Stand, begin, after, ended}
use Rattle.class_tree.proofs.text_places.all_places.Goals as goal

pub loop-rest-init : goal.loop-rest-init
loop-rest-init c = begin c.args.entries.now c.new-known.result c.new-places.result.items c.new-known.ensures.empty c.new-places.ensures.items

pub returns-in_default : goal.returns-in_default
returns-in_default c = ended c.args.entries.now (known_at c.loop-rest.known) c.loop-rest.places.items c.loop-rest.rest.now c.in_default.len_below c.loop-rest.invariant

pub loop-rest-preserved : goal.loop-rest-preserved
loop-rest-preserved c =
    let s = after c.args.entries.now (known_at c.loop-rest.known) (known_at c.entry_place.new.known) c.loop-rest.places.items c.loop-rest.rest.now c.entry-item.result c.len.result c.in-Ok.place c.in-len1-up.len_at_least c.entry-item.is
    (c.len.ensures ∙ c.loop-rest.places.ok.0) c.in-Ok.ensures.place c.in-Ok.ensures.known c.loop-rest.invariant in
    subst (λ (ps : List (Option ℕ)). Stand c.args.entries.now (known_at c.entry_place.new.known) ps (take (length c.loop-rest.rest.now - 1) (drop 1 c.loop-rest.rest.now))) (sym c.in-Ok-push.ensures.items) s
