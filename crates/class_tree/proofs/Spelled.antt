-- What the reading of a pool says of its spelling.
use Rattle.std.proofs.Common.{◌≡◌, ℕ, Bool, true, false, cond, List, ◌++◌, Some, None, Result, Ok, Err, IsTrue, refl, sym, ap, subst, ◌∙◌}
use Rattle.std.specs.Prelude.{IfOk}
use Rattle.jsa_base.specs.Reading.{◌>>=◌, Read, IsBytes}
use Rattle.jsa_base.specs.Codec.{Took, Codec}
use Rattle.jsa_base.proofs.Codecs.{bind_some, some_is, choice}
use Rattle.class_tree.specs.declared.constant_pool.PoolEntry.{PoolEntry}
use Rattle.class_tree.specs.declared.fault.FormatFault.{FormatFault}
use Rattle.class_tree.specs.declared.fault.FormatFault.TheVariants.{NotClass, Version, Memory}
use Rattle.class_tree.specs.Outcomes.{Gives, NoVersion}
use Rattle.class_tree.specs.Reading.{pool_at}
use Rattle.class_tree.specs.Entries.{pool_text, FitsPool}
use Rattle.class_tree.specs.Links.{is_linked}
use Rattle.class_tree.specs.Pools.{SpellsPool, OnePool, linked_pool_at}
use Rattle.class_tree.proofs.PoolCodecs.{pool_codec}

-- ---- the codec of a pool whose entries name what they are to name

abbrev pub FitsLinkedPool : List PoolEntry → Type 0
FitsLinkedPool pool = FitsPool pool × IsTrue (is_linked pool)

-- what follows the entries
abbrev tested : List PoolEntry × List ℕ → Read (List PoolEntry)
tested p = cond (is_linked p.0) (Some p) None

-- a test that holds
holds_then : {A : Type 0} (b : Bool) (x : A) → IsTrue b → cond b (Some x) None ≡ Some x
holds_then true x h = refl
holds_then false x h = absurd cc

pub linked_codec : Codec linked_pool_at pool_text FitsLinkedPool
unfolding linked_pool_at
linked_codec = record { takes = takes; again = again; bytes = λ pool fits. pool_codec.bytes pool fits.0 } where
  takes : (bytes : List ℕ) (pool : List PoolEntry) (rest : List ℕ) → IsBytes bytes → (pool_at bytes >>= tested) ≡ Some (pool, rest) → Took pool_text FitsLinkedPool bytes pool rest
  takes bytes pool rest fits h =
      let a = bind_some (pool_at bytes) tested (pool, rest) h in
      let g = choice (is_linked a.0.0) (Some a.0) (pool, rest) a.2 in
      let t = pool_codec.takes bytes a.0.0 a.0.1 fits a.1 in
      subst (λ (y : List PoolEntry × List ℕ). Took pool_text FitsLinkedPool bytes y.0 y.1) (some_is a.0 (pool, rest) g.1) (record { parts = t.parts; rest_bytes = t.rest_bytes; fits = (t.fits, g.0) })

  again : (pool : List PoolEntry) (rest : List ℕ) → FitsLinkedPool pool → (pool_at (pool_text pool ++ rest) >>= tested) ≡ Some (pool, rest)
  again pool rest fits =
      ap (λ (r : Read (List PoolEntry)). r >>= tested) (pool_codec.again pool rest fits.0)
      ∙ holds_then (is_linked pool) (pool, rest) fits.1

-- ---- what the reading answers

takes : (bytes : List ℕ) (pool : List PoolEntry) (rest : List ℕ) → IsBytes bytes → linked_pool_at bytes ≡ Some (pool, rest) → SpellsPool bytes pool rest
takes bytes pool rest fits h =
    let t = linked_codec.takes bytes pool rest fits h in
    record { written = t.parts; fits = t.fits.0; linked = t.fits.1 }

pub again : (bytes : List ℕ) (pool : List PoolEntry) (rest : List ℕ) → SpellsPool bytes pool rest → linked_pool_at bytes ≡ Some (pool, rest)
again bytes pool rest s = ap linked_pool_at s.written ∙ linked_codec.again pool rest (s.fits, s.linked)

pub is_found : (bytes left : List ℕ) (r : Result (List PoolEntry) FormatFault) → IsBytes bytes → Gives r left (linked_pool_at bytes) → IfOk r (λ pool. SpellsPool bytes pool left)
is_found bytes left (Ok pool) fits given = takes bytes pool left fits given
is_found bytes left (Err e) fits given = tt

pub has_no_version : (bytes left : List ℕ) (r : Result (List PoolEntry) FormatFault) → Gives r left (linked_pool_at bytes) → NoVersion r
has_no_version bytes left (Ok pool) given = tt
has_no_version bytes left (Err NotClass) given = tt
has_no_version bytes left (Err (Version minor major)) given = given
has_no_version bytes left (Err Memory) given = tt

pub one_is : OnePool
one_is bytes p q x y s t =
    let e = some_is (p, x) (q, y) (sym (again bytes p x s) ∙ again bytes q y t) in
    (ap (λ (z : List PoolEntry × List ℕ). z.0) e, ap (λ (z : List PoolEntry × List ℕ). z.1) e)
