-- How a pool grows where an entry is needed.
use Rattle.std.proofs.Common.{◌≡◌, ℕ, Bool, true, false, true≢false, cond, List, [], ◌∷◌, ◌++◌, length, slice_get, nat_lt, Option, Some, None, ◌⊎◌, inl, inr, refl, sym, ap, subst, ◌∙◌, arith, append-nil}
use Rattle.std.specs.List.{position, AllByRecursion}
use Rattle.std.proofs.lemmas.Slice.Eq.{bytes_eq-Decides}
use Rattle.jsa_base.specs.Reading.{◌>>=◌}
use Rattle.jsa_base.proofs.Codecs.{some_is}
use Rattle.class_tree.specs.declared.constant_pool.PoolEntry.{PoolEntry}
use Rattle.class_tree.specs.declared.constant_pool.PoolEntry.TheVariants.{Unusable}
use Rattle.class_tree.specs.Entries.{entry, is_wide}
use Rattle.pool_builder.specs.Known.{put_last}
use Rattle.pool_builder.specs.Laws.{StandsAt, Grows, NeededGrows}
use Rattle.pool_builder.specs.Needs.{is_same, added, held_or, needed}
use Rattle.pool_builder.proofs.Positions.{position-holds, position-none}

-- An entry with what is put behind it.
pub record Added (e : PoolEntry) (pool : List PoolEntry) : Type 0 where
  pub rest : List PoolEntry
  pub unusable : AllByRecursion (λ r. r ≡ Unusable) rest
  pub is : added pool e ≡ pool ++ (e ∷ rest)

added_by : (wide : Bool) (e : PoolEntry) (pool : List PoolEntry) → is_wide e ≡ wide → Added e pool
added_by true e pool w = record { rest = Unusable ∷ []; unusable = (refl, tt); is = ap (λ (b : Bool). cond b (pool ++ (e ∷ Unusable ∷ [])) (pool ++ e ∷ [])) w }
added_by false e pool w = record { rest = []; unusable = tt; is = ap (λ (b : Bool). cond b (pool ++ (e ∷ Unusable ∷ [])) (pool ++ e ∷ [])) w }

pub added_is : (e : PoolEntry) (pool : List PoolEntry) → Added e pool
added_is e pool = added_by (is_wide e) e pool refl

-- ---- the two ways

-- An equal entry stood there.
pub record Held (e : PoolEntry) (before : List PoolEntry) (index : ℕ) (after : List PoolEntry) : Type 0 where
  pub same : after ≡ before
  pub stands : StandsAt e index before

-- None did, and the entry was put at the end.
pub record Put (e : PoolEntry) (before : List PoolEntry) (index : ℕ) (after : List PoolEntry) : Type 0 where
  pub rest : List PoolEntry
  pub unusable : AllByRecursion (λ r. r ≡ Unusable) rest
  pub kept : after ≡ before ++ (e ∷ rest)
  pub at : index ≡ length before
  pub new : (k : ℕ) (f : PoolEntry) → slice_get before k ≡ Some f → entry f ≡ entry e → ⊥

abbrev pub at_index : ℕ → List PoolEntry → Option (ℕ × List PoolEntry)
at_index n pool = Some (n, pool)

pub parted : (n index : ℕ) (pool after : List PoolEntry) → at_index n pool ≡ at_index index after → (n ≡ index) × (pool ≡ after)
parted n index pool after h =
    let s : (ℕ × List PoolEntry) = (n, pool) in
    let t : (ℕ × List PoolEntry) = (index, after) in
    let e : s ≡ t = some_is s t h in
    (ap (λ (p : ℕ × List PoolEntry). p.0) e, ap (λ (p : ℕ × List PoolEntry). p.1) e)

abbrev pub within_room : Bool → ℕ → List PoolEntry → Option (ℕ × List PoolEntry)
within_room much n pool = (cond much None (Some pool)) >>= λ after. Some (n, after)

within_by : (much : Bool) (n index : ℕ) (pool after : List PoolEntry) → within_room much n pool ≡ at_index index after → (n ≡ index) × (pool ≡ after)
within_by true n index pool after h = absurd cc
within_by false n index pool after h = parted n index pool after h

pub found_is : (e : PoolEntry) (before : List PoolEntry) (index : ℕ) → position (is_same e) before ≡ Some index → StandsAt e index before
found_is e before index h =
    let f = position-holds (is_same e) before index h in
    let at : f.place ≡ index = omega (arith, f.at) in
    (f.item, subst (λ (k : ℕ). slice_get before k ≡ Some f.item) at f.is, sym ((bytes_eq-Decides (entry e) (entry f.item)).0 f.passes))

held : (e : PoolEntry) (before : List PoolEntry) (i index : ℕ) (after : List PoolEntry) → position (is_same e) before ≡ Some i → at_index i before ≡ at_index index after → Held e before index after
held e before i index after h is =
    let s = parted i index before after is in
    record { same = sym s.1; stands = found_is e before index (h ∙ ap (λ (n : ℕ). Some n) s.0) }

put : (e : PoolEntry) (before : List PoolEntry) (index : ℕ) (after : List PoolEntry) → position (is_same e) before ≡ None → put_last e before ≡ Some (index, after) → Put e before index after
put e before index after h is =
    let a = added_is e before in
    let w = within_by (nat_lt 65535 (length (added before e))) (length before) index (added before e) after is in
    record {
      rest = a.rest;
      unusable = a.unusable;
      kept = sym w.1 ∙ a.is;
      at = sym w.0;
      new = λ k f stands alike. true≢false (sym ((bytes_eq-Decides (entry e) (entry f)).1 (sym alike)) ∙ position-none (is_same e) before k f h stands);
    }

cases : (o : Option ℕ) (e : PoolEntry) (before : List PoolEntry) (index : ℕ) (after : List PoolEntry) → position (is_same e) before ≡ o → held_or o before (put_last e before) ≡ Some (index, after) → Held e before index after ⊎ Put e before index after
cases (Some i) e before index after h is = inl (held e before i index after h is)
cases None e before index after h is = inr (put e before index after h is)

pub needed_cases : (e : PoolEntry) (before : List PoolEntry) (index : ℕ) (after : List PoolEntry) → needed e before ≡ Some (index, after) → Held e before index after ⊎ Put e before index after
unfolding needed
needed_cases e before index after h = cases (position (is_same e) before) e before index after refl h

-- ---- the law

-- what stands behind a front
pub behind : (before rest : List PoolEntry) (e : PoolEntry) → slice_get (before ++ (e ∷ rest)) (length before) ≡ Some e
behind [] rest e = refl
behind (x ∷ xs) rest e = behind xs rest e

grows_by : (e : PoolEntry) (before : List PoolEntry) (index : ℕ) (after : List PoolEntry) → Held e before index after ⊎ Put e before index after → Grows e before index after
grows_by e before index after (inl h) = record {
  more = [];
  kept = h.same ∙ sym (append-nil before);
  stands = subst (StandsAt e index) (sym h.same) h.stands;
}
grows_by e before index after (inr p) = record {
  more = e ∷ p.rest;
  kept = p.kept;
  stands = (e, ap (λ (pool : List PoolEntry). slice_get pool index) p.kept ∙ ap (slice_get (before ++ (e ∷ p.rest))) p.at ∙ behind before p.rest e, refl);
}

pub needed_grows : NeededGrows
needed_grows e before after index h = grows_by e before index after (needed_cases e before index after h)
