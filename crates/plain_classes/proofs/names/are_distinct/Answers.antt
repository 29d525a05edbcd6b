use Rattle.std.proofs.Common.{sym, ◌∙◌, ap, List, ℕ, Bool, not, ◌&&◌, ◌||◌, Bor}
use Rattle.std.specs.Str.{bytes_eq}
use Rattle.plain_classes.specs.Records.{names_of, is_among, borrowed, are_distinct}
use Rattle.plain_classes.proofs.Distinct.{are_new, begins, after, stopped}
use Rattle.plain_classes.proofs.names.are_distinct.Goals as goal

pub loop-rest-init : goal.loop-rest-init
loop-rest-init c =
    ap (λ (ks : List (Bor (List ℕ))). are_new (borrowed ks) (names_of c.args.classes.now) && are_distinct (names_of c.args.classes.now)) c.new-seen.ensures.empty
    ∙ ap (λ (b : Bool). b && are_distinct (names_of c.args.classes.now)) (begins (names_of c.args.classes.now))

pub returns-then-not-is_new : goal.returns-then-not-is_new
returns-then-not-is_new c =
    stopped c.loop-rest.rest.now c.first-item.result (borrowed c.loop-rest.seen.keys) (are_distinct (names_of c.args.classes.now)) c.in-len1-up.len_at_least c.first-item.is
    (sym c.if-not-is_new.true ∙ c.in-Ok.ensures.new ∙ ap (λ (n : List ℕ). not (is_among n (borrowed c.loop-rest.seen.keys))) c.as_slice.ensures) c.loop-rest.invariant

pub loop-rest-preserved : goal.loop-rest-preserved
loop-rest-preserved c =
    after c.loop-rest.rest.now c.first-item.result (borrowed c.loop-rest.seen.keys) (borrowed c.add.new.seen.keys) (are_distinct (names_of c.args.classes.now)) c.in-len1-up.len_at_least c.first-item.is
    (λ n. c.in-Ok.ensures.seen n ∙ ap (λ (m : List ℕ). bytes_eq m n || is_among n (borrowed c.loop-rest.seen.keys)) c.as_slice.ensures)
    (sym c.if-not-is_new.false ∙ c.in-Ok.ensures.new ∙ ap (λ (n : List ℕ). not (is_among n (borrowed c.loop-rest.seen.keys))) c.as_slice.ensures) c.loop-rest.invariant
