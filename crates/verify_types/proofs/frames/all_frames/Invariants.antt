use Rattle.std.proofs.Common.{◌≡◌, drop, None}
use Rattle.verify_rules.specs.Frames.{frames_from}
use Rattle.verify_types.proofs.Building.{behind, place_bound}
use Rattle.verify_types.proofs.frames.all_frames.Given as goal

abbrev pub invariant-loop-w : goal.invariant-loop-w
invariant-loop-w l = (behind l.frames (frames_from l.pool l.code l.before l.locals (drop l.w-index l.written)) ≡ frames_from l.pool l.code None l.fn.locals l.written) × place_bound l.before l.w-index
