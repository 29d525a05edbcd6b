use Rattle.std.proofs.Common.{◌≡◌, ◌+◌, None, true, is_some, refl, sym, ◌∙◌, ap, subst, arith}
use Rattle.jsa_files.specs.Sinks.{GrowsBy, GrowsByFront}
use Rattle.first_form.specs.Machine.{State, state_after, start}
use Rattle.first_form.specs.Does.{text_of}
use Rattle.first_form.proofs.Runs.{new_is_start, new_put_nothing, still_at, one_more, grows_more, same_end, none_told}
use Rattle.first_form.proofs.Fronts.{front_so_far, front_with_put, on_err}
use Rattle.first_form.proofs.Exits.{never_stuck}
use Rattle.first_form.proofs.running.run.Goals as goal

pub loop-init : goal.loop-init
loop-init g c = record {
  at = new_is_start c.args.program.now c.args.machine.now c.requires.new;
  turns = c.requires.new.turns;
  out = new_put_nothing (g.O.Sink.taken c.args.out.now) c.args.program.now;
  stays = λ h. h;
  quiet = refl;
}

pub returns-in_err-turned-clause-front : goal.returns-in_err-turned-clause-front
returns-in_err-turned-clause-front g c =
    on_err c.from_residual.result (GrowsByFront (g.O.Sink.taken c.args.out.now) (g.O.Sink.taken c.loop.out) (state_after c.args.program.now c.args.limit start).out)
    (front_so_far (g.O.Sink.taken c.args.out.now) (g.O.Sink.taken c.loop.out) c.args.program.now c.loop.counter c.args.limit (omega arith) c.loop.invariant.out)

pub returns-in_err-put_number-clause-front : goal.returns-in_err-put_number-clause-front
returns-in_err-put_number-clause-front g c =
    let program = c.args.program.now in
    let more = one_more program c.loop.counter c.loop.machine c.turn.new.machine c.in_ok-turned.turned c.loop.invariant.at (c.in_ok-turned.ensures.state (state_after program c.loop.counter start).out) in
    on_err c.from_residual-in_err-put_number.result (GrowsByFront (g.O.Sink.taken c.args.out.now) (g.O.Sink.taken c.put_number.new.out) (state_after program c.args.limit start).out)
    (front_with_put (g.O.Sink.taken c.args.out.now) (g.O.Sink.taken c.loop.out) (g.O.Sink.taken c.put_number.new.out) program c.loop.counter c.args.limit (text_of c.in_ok-turned.turned.put) (omega arith)
    more.out c.loop.invariant.out c.in_err-put_number.ensures.front)

pub returns-then-is_some-clause-ran : goal.returns-then-is_some-clause-ran
returns-then-is_some-clause-ran g c =
    let program = c.args.program.now in
    let more = one_more program c.loop.counter c.loop.machine c.turn.new.machine c.in_ok-turned.turned c.loop.invariant.at (c.in_ok-turned.ensures.state (state_after program c.loop.counter start).out) in
    let some : is_some c.in_ok-turned.turned.end ≡ true = sym c.is_some.ensures ∙ c.if-is_some.true in
    still_at (state_after program (c.loop.counter + 1) start) (state_after program c.args.limit start) _ c.in_ok-turned.turned.end c.in_ok-turned.turned.end
    (same_end program (c.loop.counter + 1) c.args.limit c.in_ok-turned.turned.end some (omega arith) more.at.end) refl more.at

pub returns-then-is_some-clause-out : goal.returns-then-is_some-clause-out
returns-then-is_some-clause-out g c =
    let program = c.args.program.now in
    let more = one_more program c.loop.counter c.loop.machine c.turn.new.machine c.in_ok-turned.turned c.loop.invariant.at (c.in_ok-turned.ensures.state (state_after program c.loop.counter start).out) in
    let some : is_some c.in_ok-turned.turned.end ≡ true = sym c.is_some.ensures ∙ c.if-is_some.true in
    subst (λ (s : State). GrowsBy (g.O.Sink.taken c.args.out.now) (g.O.Sink.taken c.put_number.new.out) s.out)
    (sym (same_end program (c.loop.counter + 1) c.args.limit c.in_ok-turned.turned.end some (omega arith) more.at.end))
    (grows_more (g.O.Sink.taken c.args.out.now) (g.O.Sink.taken c.loop.out) (g.O.Sink.taken c.put_number.new.out) program c.loop.counter _ c.in_ok-turned.turned more c.loop.invariant.out c.in_ok-put_number.ensures.out)

pub returns-then-is_some-clause-sound : goal.returns-then-is_some-clause-sound
returns-then-is_some-clause-sound g c =
    let program = c.args.program.now in
    let more = one_more program c.loop.counter c.loop.machine c.turn.new.machine c.in_ok-turned.turned c.loop.invariant.at (c.in_ok-turned.ensures.state (state_after program c.loop.counter start).out) in
    λ stuck. never_stuck (c.loop.counter + 1) program c.requires.tested (sym more.at.end ∙ stuck)

pub loop-preserved : goal.loop-preserved
loop-preserved g c =
    let program = c.args.program.now in
    let more = one_more program c.loop.counter c.loop.machine c.turn.new.machine c.in_ok-turned.turned c.loop.invariant.at (c.in_ok-turned.ensures.state (state_after program c.loop.counter start).out) in
    let none : c.in_ok-turned.turned.end ≡ None = none_told c.in_ok-turned.turned.end (sym c.is_some.ensures ∙ c.if-is_some.false) in
    record {
      at = still_at (state_after program (c.loop.counter + 1) start) (state_after program (c.loop.counter + 1) start) _ c.in_ok-turned.turned.end None refl none more.at;
      turns = ap (λ n. n + 1) (c.in_ok-turned.ensures.turns ∙ c.loop.invariant.turns);
      out = grows_more (g.O.Sink.taken c.args.out.now) (g.O.Sink.taken c.loop.out) (g.O.Sink.taken c.put_number.new.out) program c.loop.counter _ c.in_ok-turned.turned more c.loop.invariant.out c.in_ok-put_number.ensures.out;
      stays = λ h. c.loop.invariant.stays (c.in_ok-put_number.ensures.stays h);
      quiet = c.in_ok-put_number.ensures.cause ∙ c.loop.invariant.quiet;
    }
