-- When a run answers that a put failed.
use Rattle.std.specs.Prelude.{◌≡◌, ℕ, ◌≤◌, Result, Ok, Err}
use Rattle.jsa_files.specs.Causes.{Rose}
use Rattle.first_form.specs.declared.running.RunFault.{RunFault}
use Rattle.first_form.specs.declared.running.RunFault.TheVariants.{Write, Memory}
use Rattle.first_form.specs.declared.class_run.RunEnd.{RunEnd}
use Rattle.first_form.specs.declared.class_run.RunEnd.TheVariants as ended

-- A count of faults rose where the answer is Write, and else is as before.
abbrev pub CountsWrite : {T : Type 0} → ℕ → ℕ → Result T RunFault → Type 0
CountsWrite before now (Ok x) = now ≡ before
CountsWrite before now (Err Write) = (before ≤ now) × Rose before now
CountsWrite before now (Err Memory) = now ≡ before

-- The same of the run of a class.
abbrev pub CountsPuts : ℕ → ℕ → RunEnd → Type 0
CountsPuts before now ended.Write = (before ≤ now) × Rose before now
CountsPuts before now ended.Returned = now ≡ before
CountsPuts before now ended.Stopped = now ≡ before
CountsPuts before now ended.Unsupported = now ≡ before
CountsPuts before now ended.Memory = now ≡ before
