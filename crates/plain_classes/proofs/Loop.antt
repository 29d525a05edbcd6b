-- Reading items one after the other, as a loop does.
use Rattle.std.proofs.Common.{◌≡◌, ℕ, ◌-◌, ◌<◌, List, Err}
use Rattle.jsa_base.specs.Reading.{Read, times}
use Rattle.jsa_base.proofs.Loops.{with_front, stops}
use Rattle.plain_classes.specs.declared.reading.Unread.{Unread}
use Rattle.plain_classes.specs.declared.reading.Unread.TheVariants.{NotClasses, Memory}
use Rattle.plain_classes.specs.Outcomes.{Gives}

pub ends : {A : Type 0} (item : List ℕ → Read A) (e : Unread) (front : List A) (count i : ℕ) (bytes after : List ℕ) (total : Read (List A)) → i < count → Gives {A = A} (Err e) after (item bytes)
    → with_front front (times item (count - i) bytes) ≡ total → Gives {A = List A} (Err e) after total
ends item Memory front count i bytes after total lt h so_far = tt
ends item NotClasses front count i bytes after total lt h so_far = stops item front count i bytes total lt h so_far
