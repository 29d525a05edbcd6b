use Rattle.std.proofs.Common.{arith}
use Rattle.std.proofs.lemmas.Result.{err_from_is_err_and}
use Rattle.verify_types.proofs.Building.{frames_go_on, frames_fail, frames_done, within_bound}
use Rattle.verify_types.proofs.frames.all_frames.Goals as goal

pub returns-in_err-frame : goal.returns-in_err-frame
returns-in_err-frame c =
    let p = err_from_is_err_and c.from_residual.result c.from_residual.ensures.1 in
    let h = rw c.requires.same at c.in_err-frame.ensures in
    rw (p.1, p.2) (frames_fail c.args.pool.now c.args.code.now c.loop-w.before c.loop-w.locals c.loop-w.frames c.args.written.now c.loop-w.w-index c.w-item.result _ c.loop-w-test.true c.w-item.is c.in_err-frame.field-0.0 h c.loop-w.invariant.0)

pub loop-w-preserved : goal.loop-w-preserved
loop-w-preserved c =
    let h = rw c.requires.same at c.in_ok-frame.ensures in
    let g = frames_go_on c.args.pool.now c.args.code.now c.loop-w.before c.loop-w.locals c.loop-w.frames c.args.written.now c.loop-w.w-index c.w-item.result _ c.loop-w-test.true c.w-item.is c.in_ok-frame.frame c.next_frame.new.locals h c.loop-w.invariant.0 in
    let b = within_bound c.loop-w.before c.w-item.result.delta c.loop-w.w-index (omega arith) c.loop-w.invariant.1 in
    (rw (c.in_ok-push.ensures.ok, c.place_after-place.ensures) g, rw c.place_after-place.ensures b)

pub returns : goal.returns
returns c = frames_done c.args.pool.now c.args.code.now c.loop-w.before c.loop-w.locals c.loop-w.frames c.args.written.now c.loop-w.w-index _ c.loop-w-test.false c.loop-w.invariant.0
