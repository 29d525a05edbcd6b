use Rattle.std.proofs.Common.{ℕ, List, slice_get, sym, ◌∙◌, ap}
use Rattle.verify_rules.specs.Places.{instructions}
use Rattle.verify_types.proofs.Marked.{is_kept, again, never_fails}
use Rattle.verify_types.proofs.places.Places.get.Goals as goal

pub decode-requires-clause-inside : goal.decode-requires-clause-inside
decode-requires-clause-inside c =
    let found = sym (c.in-Some.ensures ∙ ap (λ (xs : List ℕ). slice_get xs c.args.k) c.as_slice.ensures) in
    (is_kept _ _ _ _ c.args.k c.in-Some.place.now c.self.invariant found).stands.within

pub decode-requires-clause-short : goal.decode-requires-clause-short
decode-requires-clause-short c =
    let found = sym (c.in-Some.ensures ∙ ap (λ (xs : List ℕ). slice_get xs c.args.k) c.as_slice.ensures) in
    (is_kept _ _ _ _ c.args.k c.in-Some.place.now c.self.invariant found).short

pub unreachable-requires : goal.unreachable-requires
unreachable-requires c =
    let found = sym (c.in-Some.ensures ∙ ap (λ (xs : List ℕ). slice_get xs c.args.k) c.as_slice.ensures) in
    never_fails _ _ _ _ (is_kept _ _ _ _ c.args.k c.in-Some.place.now c.self.invariant found) (sym c.in_default-decode.ensures.decoded)

pub returns : goal.returns
returns c =
    let found = sym (c.in-Some.ensures ∙ ap (λ (xs : List ℕ). slice_get xs c.args.k) c.as_slice.ensures) in
    let kept = is_kept _ _ _ _ c.args.k c.in-Some.place.now c.self.invariant found in
    sym (again _ _ _ _ _ kept (sym c.in-Ok.ensures.decoded)) ∙ ap (λ (code : List ℕ). slice_get (instructions code).placed c.args.k) c.self.view_is
