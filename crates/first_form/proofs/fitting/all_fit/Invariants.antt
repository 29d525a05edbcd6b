use Rattle.std.proofs.Common.{◌≡◌, drop}
use Rattle.first_form.specs.Program as program
use Rattle.first_form.proofs.fitting.all_fit.Given as goal

abbrev pub invariant-loop-place : goal.invariant-loop-place
invariant-loop-place l = program.fits l.room l.depth l.stored (drop l.place l.instructions) ≡ program.fits l.room 0 l.fn.stored l.instructions
