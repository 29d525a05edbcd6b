use Rattle.std.proofs.Common.{◌+◌, List, [], ◌∷◌, ◌++◌, drop, ap, ◌∙◌}
use Rattle.class_tree.specs.ClassNames.{own_name}
use Rattle.verify_rules.specs.Types.{top_first}
use Rattle.verify_rules.specs.Classes.{Origin, overrides_final}
use Rattle.type_verifier.proofs.Overriding.{step_final, step_plain, step_none, steps_end, steps_begin}
use Rattle.type_verifier.proofs.classes.overrides_final.Goals as goal
use Rattle.type_verifier.proofs.classes.overrides_final.Goals.{in-Some-false+in_ok-push-in-Some-false, in-None}

pub loop-c-init : goal.loop-c-init
loop-c-init c =
    let own : Origin = record { name = own_name c.args.tree.now; loader = c.args.loader } in
    steps_begin c.args.tree.now c.args.m.now c.args.supers.now c.push.new.self c.new-lower.result c.own_origin.result own c.in_ok-push.ensures.ok c.new-lower.ensures c.own_origin.ensures

pub returns-in-Some-true : goal.returns-in-Some-true
returns-in-Some-true c =
    let own : Origin = record { name = own_name c.args.tree.now; loader = c.args.loader } in
    let whole = overrides_final c.args.tree.now c.args.m.now (own ∷ []) c.args.supers.now in
    step_final c.args.tree.now c.args.m.now whole c.loop-c.lower c.as_slice.result.now c.args.supers.now c.loop-c.c-index c.c-item.result c.c-item.is c.loop-c-test.true c.as_slice.ensures
    c.in-Some-true.field-0 c.in-Some-true.ensures c.in-Some-true.field-0-test c.loop-c.invariant

pub loop-c-preserved : goal.loop-c-preserved
loop-c-preserved c =
    let own : Origin = record { name = own_name c.args.tree.now; loader = c.args.loader } in
    let t = c.args.tree.now in
    let m = c.args.m.now in
    let supers = c.args.supers.now in
    let whole = overrides_final t m (own ∷ []) supers in
    let i = c.loop-c.c-index in
    elim c.match-overridden_of.branch [
      | in-Some-false+in_ok-push-in-Some-false w ↦
          step_plain t m whole c.loop-c.lower c.as_slice.result.now supers i c.c-item.result c.c-item.is c.loop-c-test.true c.as_slice.ensures
          w.in-Some-false.field-0 c.match-overridden_of.lower w.in-Some-false.ensures w.in-Some-false.field-0-test
          (w.lower-is ∙ w.in_ok-push-in-Some-false.ensures.ok ∙ ap (λ (x : Origin). c.loop-c.lower ++ x ∷ []) w.origin_of.ensures) c.loop-c.invariant
      | in-None w ↦
          ap (λ (l : List Origin). overrides_final t m (top_first l) (drop (i + 1) supers)) w.lower-is
          ∙ step_none t m whole c.loop-c.lower c.as_slice.result.now supers i c.c-item.result c.c-item.is c.loop-c-test.true c.as_slice.ensures w.in-None.ensures c.loop-c.invariant
    ]

pub returns : goal.returns
returns c =
    let own : Origin = record { name = own_name c.args.tree.now; loader = c.args.loader } in
    let whole = overrides_final c.args.tree.now c.args.m.now (own ∷ []) c.args.supers.now in
    steps_end c.args.tree.now c.args.m.now whole (top_first c.loop-c.lower) c.args.supers.now c.loop-c.c-index c.loop-c-test.false c.loop-c.invariant
