use Rattle.std.proofs.Common.{◌≡◌, List, false, ◌++◌, ◌∷◌, [], length, subst, sym, ap, ◌∙◌}
use Rattle.class_record.specs.Loading.{is_among}
use Rattle.class_linker.specs.declared.readings.Reading.{Reading}
use Rattle.class_linker.specs.Kept.{names_read}
use Rattle.class_linker.specs.Places.{place_known, KnowsPlaces}
use Rattle.class_linker.proofs.ReadingPlaces.{knows_more, no_place}
use Rattle.class_linker.proofs.readings.Readings.push.Goals as goal

pub make_ready-requires : goal.make_ready-requires
make_ready-requires c =
    let fresh : is_among c.args.reading.name (names_read c.self.inside.list.items) ≡ false = subst (λ (rs : List Reading). is_among c.args.reading.name (names_read rs) ≡ false) (sym c.self.view_is) c.requires in
    ap (place_known c.self.inside.places) c.as_slice-name.ensures ∙ c.self.invariant.known c.args.reading.name ∙ no_place c.self.inside.list.items c.args.reading.name fresh

pub invariant_of-self-2 : goal.invariant_of-self-2
invariant_of-self-2 c =
    let rs : List Reading = c.self.inside.list.items in
    let fresh : is_among c.args.reading.name (names_read rs) ≡ false = subst (λ (xs : List Reading). is_among c.args.reading.name (names_read xs) ≡ false) (sym c.self.view_is) c.requires in
    let at : c.len-place.result ≡ length rs = c.len-place.ensures ∙ c.self.inside.list.ok.0 in
    let kept : c.put.new.list.items ≡ rs ++ c.args.reading ∷ [] = c.put.ensures ∙ ap (λ (xs : List Reading). xs ++ c.args.reading ∷ []) c.in_ok-make_ready.ensures.list in
    subst (KnowsPlaces c.make_ready.new.places) (sym kept)
    (knows_more c.self.inside.places c.make_ready.new.places c.args.reading rs c.as_slice-name.result.now c.len-place.result c.self.invariant c.as_slice-name.ensures at fresh c.in_ok-make_ready.ensures.ok)
