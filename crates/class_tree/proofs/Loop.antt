-- Reading entries one after the other, as a loop does.
use Rattle.std.proofs.Common.{◌≡◌, ℕ, suc, ◌-◌, ◌+◌, ◌≤◌, ◌<◌, Bool, true, false, cond, List, [], ◌∷◌, ◌++◌, Some, None, refl, sym, ap, ◌∙◌, arith}
use Rattle.std.proofs.lemmas.List.{append-nil}
use Rattle.jsa_base.specs.Reading.{Read}
use Rattle.jsa_base.proofs.Loops.{with_front, regroup}
use Rattle.class_tree.specs.declared.fault.FormatFault.{FormatFault}
use Rattle.class_tree.specs.declared.fault.FormatFault.TheVariants.{NotClass, Version, Memory}
use Rattle.class_tree.specs.declared.constant_pool.PoolEntry.{PoolEntry}
use Rattle.class_tree.specs.Outcomes.{Fails}
use Rattle.class_tree.specs.Entries.{is_wide}
use Rattle.class_tree.specs.Reading.{slot_at, entries_at}

pub goes_on : (front : List PoolEntry) (unusable : Bool) (count i : ℕ) (bytes : List ℕ) (e : PoolEntry) (after : List ℕ) (total : Read (List PoolEntry)) → i < count → slot_at unusable bytes ≡ Some (e, after)
    → with_front front (entries_at unusable (count - i) bytes) ≡ total → with_front (front ++ e ∷ []) (entries_at (is_wide e) (count - (i + 1)) after) ≡ total
unfolding entries_at
goes_on front unusable count i bytes e after total lt h so_far =
    let k : count - i ≡ suc (count - (i + 1)) = omega arith in
    let one : with_front front (entries_at unusable (count - i) bytes) ≡ with_front (front ++ e ∷ []) (entries_at (is_wide e) (count - (i + 1)) after) = rw (k, h) (regroup front e (entries_at (is_wide e) (count - (i + 1)) after)) in
    sym one ∙ so_far

pub ends : (e : FormatFault) (front : List PoolEntry) (unusable : Bool) (count i : ℕ) (bytes : List ℕ) (total : Read (List PoolEntry)) → i < count → Fails e (slot_at unusable bytes)
    → with_front front (entries_at unusable (count - i) bytes) ≡ total → Fails e total
unfolding entries_at
ends Memory front unusable count i bytes total lt h so_far = tt
ends (Version minor major) front unusable count i bytes total lt h so_far = h
ends NotClass front unusable count i bytes total lt h so_far =
    let k : count - i ≡ suc (count - (i + 1)) = omega arith in
    let one : with_front front (entries_at unusable (count - i) bytes) ≡ None = rw (k, h) refl in
    sym so_far ∙ one

pub is_done : (front : List PoolEntry) (unusable : Bool) (count i : ℕ) (bytes : List ℕ) (total : Read (List PoolEntry)) → count ≤ i → with_front front (entries_at unusable (count - i) bytes) ≡ total → total ≡ cond unusable None (Some (front, bytes))
unfolding entries_at
is_done front true count i bytes total le so_far =
    let k : count - i ≡ 0 = omega arith in
    let one : with_front front (entries_at true (count - i) bytes) ≡ None = rw k refl in
    sym so_far ∙ one
is_done front false count i bytes total le so_far =
    let k : count - i ≡ 0 = omega arith in
    let one : with_front front (entries_at false (count - i) bytes) ≡ Some (front, bytes) = rw k (ap (λ (ns : List PoolEntry). Some (ns, bytes)) (append-nil front)) in
    sym so_far ∙ one
