-- What a write of a store in memory leaves is what every store's write leaves.
use Rattle.std.proofs.Common.{◌≡◌, ℕ, List, take, drop, Option, Some, None, Result, Ok, Err, inr, refl, sym, ap, take-append-drop}
use Rattle.std.specs.Option.{unwrap_or}
use Rattle.jsa_files.specs.declared.fault.FilesFault.{FilesFault}
use Rattle.jsa_files.specs.declared.fault.FilesFault.TheVariants as files
use Rattle.jsa_files.specs.Store.{Writes, WritesFront, with_file}
use Rattle.jsa_files.specs.Plans.{due, WriteFailsWhereDue}
use Rattle.jsa_files.specs.Memory.{StoreState, store_of, after_write}

first_written : (state : StoreState) (path bytes : List ℕ) (count : ℕ) → WritesFront (Some (store_of state)) (with_file (Some (store_of state)) path (take count bytes)) path bytes
first_written state path bytes count = record { front = take count bytes; tail = drop count bytes; whole = sym (take-append-drop count bytes); holds = refl }

no_size : (T : Type 0) (d : Option ℕ) (size : ℕ) → WriteFailsWhereDue {T = T} d (Err (files.TooLarge size)) → ⊥
no_size T None size h = h
no_size T (Some kept) size h = h

no_count : (T : Type 0) (d : Option ℕ) (count : ℕ) → WriteFailsWhereDue {T = T} d (Err (files.TooMany count)) → ⊥
no_count T None count h = h
no_count T (Some kept) count h = h

pub write_leaves : {T : Type 0} (old new : StoreState) (path bytes : List ℕ) (r : Result T FilesFault) → WriteFailsWhereDue (due old.plan) r → new ≡ after_write old path bytes r → Writes (Some (store_of old)) (Some (store_of new)) path bytes r
write_leaves old new path bytes (Ok x) planned h = ap (λ (s : StoreState). Some (store_of s)) h
write_leaves old new path bytes (Err files.Failed) planned h = rw h (inr (first_written old path bytes (unwrap_or (due old.plan) 0)))
write_leaves {T = T} old new path bytes (Err (files.TooLarge size)) planned h = absurd (no_size T (due old.plan) size planned)
write_leaves {T = T} old new path bytes (Err (files.TooMany count)) planned h = absurd (no_count T (due old.plan) count planned)
write_leaves old new path bytes (Err files.Memory) planned h = ap (λ (s : StoreState). Some (store_of s)) h
