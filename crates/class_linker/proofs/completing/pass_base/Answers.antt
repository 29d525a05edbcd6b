use Rattle.class_linker.specs.Rights.{progress_at}
use Rattle.class_linker.proofs.PassTold.{passes_told, refused_told, none_told}
use Rattle.class_linker.proofs.StepEnds.{no_top}
use Rattle.class_linker.proofs.completing.pass_base.Goals as goal

pub returns-in_default-clause-told : goal.returns-in_default-clause-told
returns-in_default-clause-told c p reads right path seen =
    (none_told p c.args.path.now (progress_at reads c.args.library.now.readings c.args.library.now.loaded) (no_top c.args.path.now c.in_default.ensures.top), path)

pub returns-in-Some-base_fault-clause-told : goal.returns-in-Some-base_fault-clause-told
returns-in-Some-base_fault-clause-told c p reads right path seen = (
  refused_told p c.args.library.now.loaded c.args.path.now c.in-Some.top c.index-as_slice-top.result c.in-Some-base_fault.fault (progress_at reads c.args.library.now.readings c.args.library.now.loaded)
      right.facts seen c.requires.next c.in-Some.ensures.top (rw c.as_slice.ensures at c.index-as_slice-top.is) (rw c.as_slice-2.ensures at c.in-Some-base_fault.ensures),
  path,
)

pub returns-clause-told : goal.returns-clause-told
returns-clause-told c p reads right path seen =
    passes_told p c.args.library.now.loaded c.args.path.now c.advance.new.self c.in-Some.top c.index-as_slice-top.result (progress_at reads c.args.library.now.readings c.args.library.now.loaded)
    right.facts path seen c.requires.next c.in-Some.ensures.top (rw c.as_slice.ensures at c.index-as_slice-top.is) (rw c.as_slice-2.ensures at c.in_default-base_fault.ensures) c.advance.ensures
