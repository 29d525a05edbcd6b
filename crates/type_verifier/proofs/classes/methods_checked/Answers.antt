use Rattle.std.proofs.Common.{◌≡◌, ◌<◌, ◌≤◌, length, slice_get, Some, sym, ◌∙◌, subst, arith, refl}
use Rattle.std.specs.Prelude.{IfOk}
use Rattle.std.proofs.lemmas.Option.{slice_get_read}
use Rattle.verify_rules.specs.declared.checking.Checked.{Checked}
use Rattle.verify_rules.specs.Classes.{methods_checked}
use Rattle.type_verifier.proofs.Progress.{method_on, method_stop, methods_end}
use Rattle.type_verifier.proofs.classes.methods_checked.Goals as goal

pub returns-in-Some : goal.returns-in-Some
returns-in-Some c =
    let ms = c.args.methods.now in
    let m = c.index-methods-k.result in
    let within : c.loop-k.k < length ms = omega arith in
    let is : slice_get ms c.loop-k.k ≡ Some m = slice_get_read ms (length ms) c.loop-k.k m refl within c.index-methods-k.is in
    let whole = methods_checked c.args.tree.now c.args.loader c.args.supers.now 0 ms in
    let stop = method_stop c.args.tree.now c.args.loader c.args.supers.now ms c.loop-k.k m is whole c.loop-k.asks c.found_in.new.asks c.in-Some.pc c.loop-k.invariant c.in_ok-pc.ensures.0 (sym c.in-Some.is ∙ c.in_ok-pc.ensures.1) in
    subst (λ (x : Checked). IfOk c.faulty.result (λ (checked : Checked). checked ≡ x)) stop c.faulty.ensures

pub loop-k-preserved : goal.loop-k-preserved
loop-k-preserved c =
    let ms = c.args.methods.now in
    let m = c.index-methods-k.result in
    let within : c.loop-k.k < length ms = omega arith in
    let is : slice_get ms c.loop-k.k ≡ Some m = slice_get_read ms (length ms) c.loop-k.k m refl within c.index-methods-k.is in
    let whole = methods_checked c.args.tree.now c.args.loader c.args.supers.now 0 ms in
    method_on c.args.tree.now c.args.loader c.args.supers.now ms c.loop-k.k m is whole c.loop-k.asks c.found_in.new.asks c.loop-k.invariant c.in_ok-pc.ensures.0 (sym c.in-None.is ∙ c.in_ok-pc.ensures.1)

pub returns : goal.returns
returns c =
    let ms = c.args.methods.now in
    let whole = methods_checked c.args.tree.now c.args.loader c.args.supers.now 0 ms in
    let end : length ms ≤ c.loop-k.k = omega arith in
    methods_end c.args.tree.now c.args.loader c.args.supers.now ms c.loop-k.k whole c.loop-k.asks end c.loop-k.invariant
