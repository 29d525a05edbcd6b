-- Reading items one after the other, as a loop does.
use Rattle.std.proofs.Common.{◌≡◌, ℕ, ◌-◌, ◌<◌, List}
use Rattle.jsa_base.specs.Reading.{Read, times}
use Rattle.jsa_base.proofs.Loops.{with_front, stops}
use Rattle.verify_rules.specs.declared.fault.VerifyFault.{VerifyFault}
use Rattle.verify_rules.specs.declared.fault.VerifyFault.TheVariants.{Bad, Memory}
use Rattle.verify_rules.specs.Outcomes.{Fails}

pub ends : {A : Type 0} (item : List ℕ → Read A) (e : VerifyFault) (front : List A) (count i : ℕ) (bytes : List ℕ) (total : Read (List A)) → i < count → Fails e (item bytes)
    → with_front front (times item (count - i) bytes) ≡ total → Fails e total
ends item Memory front count i bytes total lt h so_far = tt
ends item Bad front count i bytes total lt h so_far = stops item front count i bytes total lt h so_far
