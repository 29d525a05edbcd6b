use Rattle.std.proofs.Common.{true}
use Rattle.std.proofs.lemmas.Result.{err_from_is_err_and}
use Rattle.class_tree.specs.Reading.{entries_at}
use Rattle.class_tree.proofs.Loop.{goes_on, ends, is_done}
use Rattle.class_tree.proofs.reading.entries.Goals as goal

pub returns-in_err-entry : goal.returns-in_err-entry
returns-in_err-entry c =
    let p = err_from_is_err_and c.from_residual.result c.from_residual.ensures.1 in
    rw (p.1, p.2) (ends c.in_err-entry.field-0.0 c.loop.entries c.loop.unusable c.args.count c.loop.counter c.loop.cursor (entries_at true c.args.count c.args.cursor.now) c.loop-test.true c.in_err-entry.ensures c.loop.invariant)

pub loop-preserved : goal.loop-preserved
loop-preserved c = rw (c.in_ok-push.ensures.ok, c.is_wide-unusable.ensures) (goes_on c.loop.entries c.loop.unusable c.args.count c.loop.counter c.loop.cursor c.in_ok-entry.entry c.slot.new.cursor (entries_at true c.args.count c.args.cursor.now) c.loop-test.true c.in_ok-entry.ensures c.loop.invariant)

pub returns-then-unusable : goal.returns-then-unusable
returns-then-unusable c =
    let e = is_done c.loop.entries c.loop.unusable c.args.count c.loop.counter c.loop.cursor (entries_at true c.args.count c.args.cursor.now) c.loop-test.false c.loop.invariant in
    rw c.if-unusable.true at e

pub returns : goal.returns
returns c =
    let e = is_done c.loop.entries c.loop.unusable c.args.count c.loop.counter c.loop.cursor (entries_at true c.args.count c.args.cursor.now) c.loop-test.false c.loop.invariant in
    rw c.if-unusable.false at e
