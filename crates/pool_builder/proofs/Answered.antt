-- What a builder answers of one entry, by cases on the answer.
use Rattle.std.proofs.Common.{◌≡◌, ℕ, ◌+◌, ◌<◌, Bool, true, false, cond, nat_lt, Option, Some, None, Result, Ok, Err, List, [], ◌∷◌, ◌++◌, length, length-append, position, refl, sym, subst, arith}
use Rattle.std.specs.Prelude.{IfOk, IsErrOf, OnErr}
use Rattle.std.specs.List.{AllByRecursion}
use Rattle.std.proofs.lemmas.Bool.{ltb-true}
use Rattle.std.proofs.lemmas.Option.{slice_get_within}
use Rattle.jsa_base.specs.Reading.{◌>>=◌}
use Rattle.class_tree.specs.declared.constant_pool.PoolEntry.{PoolEntry}
use Rattle.class_tree.specs.declared.constant_pool.PoolEntry.TheVariants.{Unusable}
use Rattle.class_tree.specs.Entries.{is_wide}
use Rattle.pool_builder.specs.declared.fault.PoolFault.{PoolFault}
use Rattle.pool_builder.specs.declared.fault.PoolFault.TheVariants.{NoRoom, Memory}
use Rattle.pool_builder.specs.Laws.{parts, Keeps}
use Rattle.pool_builder.specs.Needs.{is_same, added, within, held_or, indices, LacksIndices, needed}
use Rattle.pool_builder.specs.Outcome.{Finds}
use Rattle.pool_builder.proofs.Grown.{within_room, needed_grows}
use Rattle.pool_builder.proofs.Built.{needed_built}
use Rattle.pool_builder.proofs.Keeping.{keeps_same}

abbrev Answer : Type 0
Answer = Result ℕ PoolFault

pub index_keeps : (r : Answer) (e : PoolEntry) (before after : List PoolEntry) → AllByRecursion (λ part. part < length before) (parts e) → Finds r after (needed e before) → OnErr r (after ≡ before) → Keeps before after
index_keeps (Ok index) e before after low found stays = record {
  built = λ b. (needed_built e before index after b low found).built;
  grown = let g = needed_grows e before after index found in record { more = g.more; is = g.kept };
}
index_keeps (Err fault) e before after low found stays = subst (Keeps before) (sym stays) (keeps_same before)

pub index_within : (r : Answer) (e : PoolEntry) (before after : List PoolEntry) → Finds r after (needed e before) → IfOk r (λ index. index < length after)
index_within (Ok index) e before after found = let s = (needed_grows e before after index found).stands in slice_get_within after index s.0 s.1
index_within (Err fault) e before after found = tt

-- ---- where there is no room

added_length : (wide : Bool) (e : PoolEntry) (pool : List PoolEntry) → length (cond wide (pool ++ (e ∷ Unusable ∷ [])) (pool ++ e ∷ [])) ≡ length pool + cond wide 2 1
added_length true e pool = omega (arith, length-append pool (e ∷ Unusable ∷ []))
added_length false e pool = omega (arith, length-append pool (e ∷ []))

none_within : (much : Bool) (n : ℕ) (pool : List PoolEntry) → nat_lt 65535 (length pool) ≡ much → within_room much n pool ≡ None → 65535 < length pool
none_within true n pool e h = ltb-true 65535 (length pool) e
none_within false n pool e h = absurd cc

lacks_by : (o : Option ℕ) (e : PoolEntry) (pool : List PoolEntry) → held_or o pool (within (added pool e) >>= λ after. Some (length pool, after)) ≡ None → LacksIndices (indices e) pool
lacks_by (Some index) e pool h = absurd cc
lacks_by None e pool h =
    let much = none_within (nat_lt 65535 (length (added pool e))) (length pool) (added pool e) refl h in
    omega (arith, much, added_length (is_wide e) e pool)

lacks : (e : PoolEntry) (pool : List PoolEntry) → needed e pool ≡ None → LacksIndices (indices e) pool
unfolding needed
lacks e pool h = lacks_by (position (is_same e) pool) e pool h

pub index_room : (r : Answer) (e : PoolEntry) (before after : List PoolEntry) → Finds r after (needed e before) → OnErr r (after ≡ before) → IsErrOf r NoRoom → LacksIndices (indices e) after
index_room (Ok index) e before after found stays is = absurd cc
index_room (Err NoRoom) e before after found stays is = subst (LacksIndices (indices e)) (sym stays) (lacks e before found)
index_room (Err Memory) e before after found stays is = absurd cc
