-- Which calls of a store or of a sink in memory fail.
use Rattle.std.specs.Prelude.{◌≡◌, ℕ, ◌+◌, ◌-◌, ◌^◌, ◌<◌, nat_lt, if◌then◌else◌, List, Option, None, Some, IsSome, Result, Ok, Err, ⊤, refl}
use Rattle.std.specs.Ordering.{nat_cmp}
use Rattle.std.specs.FinMap.{FinMap, empty, get, insert, from_entries, code}
use Rattle.std.specs.Coded.{Coded, code_by, coded×, coded_ℕ}
use Rattle.jsa_files.specs.declared.fault.FilesFault.{FilesFault}
use Rattle.jsa_files.specs.declared.fault.FilesFault.TheVariants as files
use Rattle.jsa_files.specs.declared.fault.SinkFault.{SinkFault}
use Rattle.jsa_files.specs.declared.fault.SinkFault.TheVariants as sink

-- How many calls were made, and which calls fail: from the number of each, counted from 1, to how many of
-- its bytes are kept.
pub record Plan : Type 0 where
  pub made : ℕ
  pub failing : FinMap nat_cmp ℕ

-- the calls that fail, of a map's entries
abbrev pub failing_of : List (ℕ × ℕ) → FinMap nat_cmp ℕ
failing_of entries = from_entries entries

-- A plan is coded as its two parts.
abbrev pub plan_code : Coded Plan
plan_code = code_by (ℕ × FinMap nat_cmp ℕ) (coded× coded_ℕ (code coded_ℕ coded_ℕ)) (λ p. (p.made, p.failing)) (λ p. record { made = p.0; failing = p.1 }) (λ _. refl)

-- no call was made, and none fails
abbrev pub no_plan : Plan
no_plan = record { made = 0; failing = empty }

-- The call of this number fails, in place of what was planned for it before.
abbrev pub with_failure : Plan → ℕ → ℕ → Plan
with_failure plan call kept = record { made = plan.made; failing = insert plan.failing call kept }

-- Where the next call fails: how many of its bytes are kept.
abbrev pub due : Plan → Option ℕ
due plan = get plan.failing (plan.made + 1)

-- A call that is still to come fails.
abbrev pub FailsLater : Plan → Type 0
FailsLater plan = (call : ℕ) × (plan.made < call) × IsSome (get plan.failing call)

-- one more, up to the end of the type
abbrev pub counted : ℕ → ℕ
counted count = if nat_lt count (2 ^ 64 - 1) then count + 1 else count

-- A call is counted, whatever it answers.
abbrev pub after_call : Plan → Plan
after_call plan = record { made = counted plan.made; failing = plan.failing }

-- A call of a store answers Failed where that is due, and nowhere else.
abbrev pub FailsWhereDue : {T : Type 0} → Option ℕ → Result T FilesFault → Type 0
FailsWhereDue (Some kept) result = result ≡ Err files.Failed
FailsWhereDue None (Ok x) = ⊤
FailsWhereDue None (Err files.Failed) = ⊥
FailsWhereDue None (Err (files.TooLarge size)) = ⊤
FailsWhereDue None (Err (files.TooMany count)) = ⊤
FailsWhereDue None (Err files.Memory) = ⊤

-- A put answers Failed where that is due, unless memory runs out there, and nowhere else.
abbrev pub PutFailsWhereDue : {T : Type 0} → Option ℕ → Result T SinkFault → Type 0
PutFailsWhereDue (Some kept) (Ok x) = ⊥
PutFailsWhereDue (Some kept) (Err sink.Failed) = ⊤
PutFailsWhereDue (Some kept) (Err sink.Memory) = ⊤
PutFailsWhereDue None (Ok x) = ⊤
PutFailsWhereDue None (Err sink.Failed) = ⊥
PutFailsWhereDue None (Err sink.Memory) = ⊤

-- A write of a store answers Failed where that is due, unless memory runs out there, and nowhere else.
abbrev pub WriteFailsWhereDue : {T : Type 0} → Option ℕ → Result T FilesFault → Type 0
WriteFailsWhereDue (Some kept) (Ok x) = ⊥
WriteFailsWhereDue (Some kept) (Err files.Failed) = ⊤
WriteFailsWhereDue (Some kept) (Err (files.TooLarge size)) = ⊥
WriteFailsWhereDue (Some kept) (Err (files.TooMany count)) = ⊥
WriteFailsWhereDue (Some kept) (Err files.Memory) = ⊤
WriteFailsWhereDue None (Ok x) = ⊤
WriteFailsWhereDue None (Err files.Failed) = ⊥
WriteFailsWhereDue None (Err (files.TooLarge size)) = ⊥
WriteFailsWhereDue None (Err (files.TooMany count)) = ⊥
WriteFailsWhereDue None (Err files.Memory) = ⊤
