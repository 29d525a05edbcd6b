-- A map with numbers as keys is the finite map of its entries.
use Rattle.std.proofs.Common.{◌≡◌, ◌^◌, ◌<◌, ℕ, List, [], ◌∷◌, cond, true, false, refl, sym, ap, subst, ◌∙◌, None, Some, IsSome, arith}
use Rattle.std.specs.Ordering.{nat_cmp, is_eq, eq_by_cmp, match_ordering}
use Rattle.std.specs.Cmp.{nat_cmp_total, nat_cmp_is}
use Rattle.std.specs.declared.cmp.Ordering.TheVariants.{Less, Equal, Greater}
use Rattle.std.specs.Map.{lookup}
use Rattle.std.specs.BTreeMap.{insert_entry, is_at}
use Rattle.std.specs.FinMap.{get, insert, from_entries, find, put, get-empty, get-insert, get-from_entries, same_map, nat_cmp-IsAntisymmetric}
use Rattle.std.specs.FinMap.Entries.{by_order, find-put}
use Rattle.jsa_files.specs.Plans.{FailsLater, no_plan, failing_of}

entries_put : (es : List (ℕ × ℕ)) (k v : ℕ) → insert_entry nat_cmp es k v ≡ put nat_cmp k v es
entries_put [] k v = refl
entries_put (e ∷ es) k v =
    elim (nat_cmp k e.0) as (λ o. match_ordering o ((k, v) ∷ e ∷ es) ((e.0, v) ∷ es) (e ∷ insert_entry nat_cmp es k v) ≡ by_order o ((k, v) ∷ e ∷ es) ((e.0, v) ∷ es) (e ∷ put nat_cmp k v es)) [
      | Less ↦ refl
      | Equal ↦ refl
      | Greater ↦ ap (λ (xs : List (ℕ × ℕ)). e ∷ xs) (entries_put es k v)
    ]

pub failing_insert : (es : List (ℕ × ℕ)) (k v : ℕ) → failing_of (insert_entry nat_cmp es k v) ≡ insert (from_entries es) k v
failing_insert es k v =
    ap (λ (xs : List (ℕ × ℕ)). failing_of xs) (entries_put es k v)
    ∙ same_map nat_cmp_total nat_cmp-IsAntisymmetric _ _ (λ q.
    get-from_entries nat_cmp_total (put nat_cmp k v es) q
    ∙ find-put nat_cmp nat_cmp_total q k v es
    ∙ sym (get-insert nat_cmp_total (from_entries es) k v q
    ∙ ap (cond (eq_by_cmp nat_cmp q k) (Some v)) (get-from_entries nat_cmp_total es q)))

find_number : (es : List (ℕ × ℕ)) (q : ℕ) → find nat_cmp q es ≡ lookup (is_at (nat_cmp q)) es
find_number [] q = refl
find_number (e ∷ es) q =
    elim (eq_by_cmp nat_cmp q e.0) as (λ b. cond b (Some e.1) (find nat_cmp q es) ≡ cond b (Some e.1) (lookup (is_at (nat_cmp q)) es)) [
      | true ↦ refl
      | false ↦ find_number es q
    ]

pub failing_at : (es : List (ℕ × ℕ)) (q : ℕ) → get (failing_of es) q ≡ lookup (is_at (nat_cmp q)) es
failing_at es q = get-from_entries nat_cmp_total es q ∙ find_number es q

apart : (m n : ℕ) → n < m → eq_by_cmp nat_cmp m n ≡ false
apart m n h = ap is_eq (sym (nat_cmp_is m n Greater h))

-- An entry for a number of the type puts none behind the type's end.
pub failing_end : (es : List (ℕ × ℕ)) (k v : ℕ) → k < 2 ^ 64 → get (failing_of es) (2 ^ 64) ≡ None → get (failing_of (insert_entry nat_cmp es k v)) (2 ^ 64) ≡ None
failing_end es k v h none = rw (failing_insert es k v, get-insert nat_cmp_total (failing_of es) k v (2 ^ 64), apart (2 ^ 64) k (omega arith)) none

-- Where nothing is planned, nothing fails.
pub none_fails : FailsLater no_plan → ⊥
none_fails later = let h : IsSome {T = ℕ} None = subst IsSome (get-empty nat_cmp later.0) later.2 in cc
