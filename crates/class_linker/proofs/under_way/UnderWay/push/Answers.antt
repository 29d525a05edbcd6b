use Rattle.std.proofs.Common.{◌≡◌, false, List, ◌++◌, ◌∷◌, [], reverse, subst, sym, ap, ◌∙◌}
use Rattle.class_record.specs.Loading.{is_among}
use Rattle.class_linker.specs.declared.under_way.Frame.{Frame}
use Rattle.class_linker.specs.Kept.{names_under}
use Rattle.class_linker.specs.Paths.{KnowsNames}
use Rattle.class_linker.proofs.UnderWayNames.{knows_more}
use Rattle.class_linker.proofs.under_way.UnderWay.push.Goals as goal

pub invariant_of-self-2 : goal.invariant_of-self-2
invariant_of-self-2 c =
    let fs : List Frame = c.self.inside.frames.items in
    let fresh : is_among c.args.frame.name (names_under (reverse fs)) ≡ false = subst (λ (xs : List Frame). is_among c.args.frame.name (names_under xs) ≡ false) (sym c.self.view_is) c.requires in
    let kept : c.push.new.self.items ≡ fs ++ c.args.frame ∷ [] = c.in-Ok.ensures.items ∙ ap (λ (xs : List Frame). xs ++ c.args.frame ∷ []) c.in_ok-reserve.ensures.items in
    subst (KnowsNames c.insert.new.self) (sym kept)
    (knows_more c.self.inside.names c.insert.new.self fs c.in_ok-name.name c.args.frame c.self.invariant (c.in_ok-name.ensures.items ∙ c.as_slice.ensures) fresh c.in_ok-insert.ensures.keys)
