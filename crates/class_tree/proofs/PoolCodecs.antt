-- The codec of a constant pool: what is read is spelled so, and what is spelled so is read.
use Rattle.std.proofs.Common.{◌≡◌, ℕ, zero, suc, ◌+◌, ◌<◌, Bool, true, false, List, [], ◌∷◌, ◌++◌, length, Some, refl, sym, ap, subst, ◌∙◌, append_assoc, arith, lit<}
use Rattle.std.specs.List.{flat_map}
use Rattle.std.proofs.lemmas.List.Concat.{flat_map-cons}
use Rattle.jsa_base.specs.Reading.{◌>>=◌, Read, IsBytes, u1_at, u2_at, u4_at, u8_at, pair_at, made, text_at}
use Rattle.jsa_base.specs.Spelling.{u1, u2, Fits1, Fits2}
use Rattle.jsa_base.specs.Codec.{Took, Codec}
use Rattle.jsa_base.proofs.Codecs.{append-IsBytes, leaf, on_tag, bind_some, some_is, byte_codec, u2_codec, u4_codec, u8_codec, text_codec, pair_codec}
use Rattle.class_tree.specs.declared.constant_pool.PoolEntry.{PoolEntry}
use Rattle.class_tree.specs.declared.constant_pool.PoolEntry.TheVariants.{Unusable, Utf8, Integer, Float, Long, Double, Class, Str, Fieldref, Methodref, InterfaceMethodref, NameAndType, MethodHandle, MethodType, InvokeDynamic}
use Rattle.class_tree.specs.Entries.{entry, pool_text, FitsEntry, is_wide, FitsFrom, FitsPool}
use Rattle.class_tree.specs.Reading.{entry_by, entry_at, slot_at, entries_at, pool_at}

-- ---- an entry

pairs : Codec (pair_at u2_at u2_at) (λ (p : ℕ × ℕ). u2 p.0 ++ u2 p.1) (λ (p : ℕ × ℕ). Fits2 p.0 × Fits2 p.1)
pairs = pair_codec u2_at u2_at u2 u2 Fits2 Fits2 u2_codec u2_codec

handles : Codec (pair_at u1_at u2_at) (λ (p : ℕ × ℕ). u1 p.0 ++ u2 p.1) (λ (p : ℕ × ℕ). Fits1 p.0 × Fits2 p.1)
handles = pair_codec u1_at u2_at u1 u2 Fits1 Fits2 byte_codec u2_codec

behind_takes : (tag : ℕ) (bytes : List ℕ) (e : PoolEntry) (rest : List ℕ) → IsBytes bytes → entry_by tag bytes ≡ Some (e, rest) → Took entry FitsEntry (tag ∷ bytes) e rest
unfolding entry_by
behind_takes tag bytes e rest fits h =
    on_tag tag 1 _ _ _ (leaf text_at _ _ text_codec 1 Utf8 entry FitsEntry (λ x. refl) (λ x h. h) tag bytes e rest fits)
    (on_tag tag 3 _ _ _ (leaf u4_at _ _ u4_codec 3 Integer entry FitsEntry (λ x. refl) (λ x h. h) tag bytes e rest fits)
    (on_tag tag 4 _ _ _ (leaf u4_at _ _ u4_codec 4 Float entry FitsEntry (λ x. refl) (λ x h. h) tag bytes e rest fits)
    (on_tag tag 5 _ _ _ (leaf u8_at _ _ u8_codec 5 Long entry FitsEntry (λ x. refl) (λ x h. h) tag bytes e rest fits)
    (on_tag tag 6 _ _ _ (leaf u8_at _ _ u8_codec 6 Double entry FitsEntry (λ x. refl) (λ x h. h) tag bytes e rest fits)
    (on_tag tag 7 _ _ _ (leaf u2_at _ _ u2_codec 7 Class entry FitsEntry (λ x. refl) (λ x h. h) tag bytes e rest fits)
    (on_tag tag 8 _ _ _ (leaf u2_at _ _ u2_codec 8 Str entry FitsEntry (λ x. refl) (λ x h. h) tag bytes e rest fits)
    (on_tag tag 9 _ _ _ (leaf (pair_at u2_at u2_at) _ _ pairs 9 (λ p. Fieldref p.0 p.1) entry FitsEntry (λ x. refl) (λ x h. h) tag bytes e rest fits)
    (on_tag tag 10 _ _ _ (leaf (pair_at u2_at u2_at) _ _ pairs 10 (λ p. Methodref p.0 p.1) entry FitsEntry (λ x. refl) (λ x h. h) tag bytes e rest fits)
    (on_tag tag 11 _ _ _ (leaf (pair_at u2_at u2_at) _ _ pairs 11 (λ p. InterfaceMethodref p.0 p.1) entry FitsEntry (λ x. refl) (λ x h. h) tag bytes e rest fits)
    (on_tag tag 12 _ _ _ (leaf (pair_at u2_at u2_at) _ _ pairs 12 (λ p. NameAndType p.0 p.1) entry FitsEntry (λ x. refl) (λ x h. h) tag bytes e rest fits)
    (on_tag tag 15 _ _ _ (leaf (pair_at u1_at u2_at) _ _ handles 15 (λ p. MethodHandle p.0 p.1) entry FitsEntry (λ x. refl) (λ x h. h) tag bytes e rest fits)
    (on_tag tag 16 _ _ _ (leaf u2_at _ _ u2_codec 16 MethodType entry FitsEntry (λ x. refl) (λ x h. h) tag bytes e rest fits)
    (on_tag tag 18 _ _ _ (leaf (pair_at u2_at u2_at) _ _ pairs 18 (λ p. InvokeDynamic p.0 p.1) entry FitsEntry (λ x. refl) (λ x h. h) tag bytes e rest fits)
    (λ n. absurd cc)))))))))))))) h

entry_takes : (bytes : List ℕ) (e : PoolEntry) (rest : List ℕ) → IsBytes bytes → entry_at bytes ≡ Some (e, rest) → Took entry FitsEntry bytes e rest
unfolding entry_at
entry_takes [] e rest fits h = absurd cc
entry_takes (tag ∷ bytes) e rest fits h = behind_takes tag bytes e rest fits.1 h

-- a value made of what was read
given : {A : Type 0} → (A → PoolEntry) → Read A → Read PoolEntry
given make read = read >>= λ x. Some (make x.0, x.1)

entry_again : (e : PoolEntry) (rest : List ℕ) → FitsEntry e → entry_at (entry e ++ rest) ≡ Some (e, rest)
unfolding entry_at entry_by given
entry_again Unusable rest fits = absurd fits
entry_again (Utf8 bytes) rest fits = ap (given Utf8) (text_codec.again bytes rest fits)
entry_again (Integer bits) rest fits = ap (given Integer) (u4_codec.again bits rest fits)
entry_again (Float bits) rest fits = ap (given Float) (u4_codec.again bits rest fits)
entry_again (Long bits) rest fits = ap (given Long) (u8_codec.again bits rest fits)
entry_again (Double bits) rest fits = ap (given Double) (u8_codec.again bits rest fits)
entry_again (Class name) rest fits = ap (given Class) (u2_codec.again name rest fits)
entry_again (Str string) rest fits = ap (given Str) (u2_codec.again string rest fits)
entry_again (Fieldref class member) rest fits = ap (given (λ p. Fieldref p.0 p.1)) (pairs.again (class, member) rest fits)
entry_again (Methodref class member) rest fits = ap (given (λ p. Methodref p.0 p.1)) (pairs.again (class, member) rest fits)
entry_again (InterfaceMethodref class member) rest fits = ap (given (λ p. InterfaceMethodref p.0 p.1)) (pairs.again (class, member) rest fits)
entry_again (NameAndType name desc) rest fits = ap (given (λ p. NameAndType p.0 p.1)) (pairs.again (name, desc) rest fits)
entry_again (MethodHandle kind member) rest fits = ap (given (λ p. MethodHandle p.0 p.1)) (handles.again (kind, member) rest fits)
entry_again (MethodType desc) rest fits = ap (given MethodType) (u2_codec.again desc rest fits)
entry_again (InvokeDynamic bootstrap member) rest fits = ap (given (λ p. InvokeDynamic p.0 p.1)) (pairs.again (bootstrap, member) rest fits)

entry_bytes : (e : PoolEntry) → FitsEntry e → IsBytes (entry e)
entry_bytes Unusable fits = absurd fits
entry_bytes (Utf8 bytes) fits = (lit< tt, text_codec.bytes bytes fits)
entry_bytes (Integer bits) fits = (lit< tt, u4_codec.bytes bits fits)
entry_bytes (Float bits) fits = (lit< tt, u4_codec.bytes bits fits)
entry_bytes (Long bits) fits = (lit< tt, u8_codec.bytes bits fits)
entry_bytes (Double bits) fits = (lit< tt, u8_codec.bytes bits fits)
entry_bytes (Class name) fits = (lit< tt, u2_codec.bytes name fits)
entry_bytes (Str string) fits = (lit< tt, u2_codec.bytes string fits)
entry_bytes (Fieldref class member) fits = (lit< tt, pairs.bytes (class, member) fits)
entry_bytes (Methodref class member) fits = (lit< tt, pairs.bytes (class, member) fits)
entry_bytes (InterfaceMethodref class member) fits = (lit< tt, pairs.bytes (class, member) fits)
entry_bytes (NameAndType name desc) fits = (lit< tt, pairs.bytes (name, desc) fits)
entry_bytes (MethodHandle kind member) fits = (lit< tt, handles.bytes (kind, member) fits)
entry_bytes (MethodType desc) fits = (lit< tt, u2_codec.bytes desc fits)
entry_bytes (InvokeDynamic bootstrap member) fits = (lit< tt, pairs.bytes (bootstrap, member) fits)

-- ---- the entries, from one index on

record TookEntries (unusable : Bool) (n : ℕ) (bytes : List ℕ) (entries : List PoolEntry) (rest : List ℕ) : Type 0 where
  parts : bytes ≡ flat_map entry entries ++ rest
  rest_bytes : IsBytes rest
  fits : FitsFrom unusable entries
  len : length entries ≡ n

entries_take : (unusable : Bool) (n : ℕ) (bytes : List ℕ) (entries : List PoolEntry) (rest : List ℕ) → IsBytes bytes → entries_at unusable n bytes ≡ Some (entries, rest) → TookEntries unusable n bytes entries rest
unfolding entries_at slot_at
entries_take true zero bytes entries rest fits h = absurd cc
entries_take false zero bytes entries rest fits h =
    subst (λ (y : List PoolEntry × List ℕ). TookEntries false 0 bytes y.0 y.1) (some_is ([], bytes) (entries, rest) h) (record { parts = refl; rest_bytes = fits; fits = refl; len = refl })
entries_take true (suc n) bytes entries rest fits h =
    let b = bind_some (entries_at false n bytes) (λ others. Some (Unusable ∷ others.0, others.1)) (entries, rest) h in
    let t = entries_take false n bytes b.0.0 b.0.1 fits b.1 in
    subst (λ (y : List PoolEntry × List ℕ). TookEntries true (suc n) bytes y.0 y.1) (some_is (Unusable ∷ b.0.0, b.0.1) (entries, rest) b.2) (record {
      parts = t.parts ∙ ap (λ (r : List ℕ). r ++ b.0.1) (sym (flat_map-cons entry Unusable b.0.0));
      rest_bytes = t.rest_bytes;
      fits = (refl, t.fits);
      len = ap suc t.len;
    })
entries_take false (suc n) bytes entries rest fits h =
    let a = bind_some (entry_at bytes) (λ first. entries_at (is_wide first.0) n first.1 >>= λ others. Some (first.0 ∷ others.0, others.1)) (entries, rest) h in
    let b = bind_some (entries_at (is_wide a.0.0) n a.0.1) (λ others. Some (a.0.0 ∷ others.0, others.1)) (entries, rest) a.2 in
    let first = entry_takes bytes a.0.0 a.0.1 fits a.1 in
    let t = entries_take (is_wide a.0.0) n a.0.1 b.0.0 b.0.1 first.rest_bytes b.1 in
    subst (λ (y : List PoolEntry × List ℕ). TookEntries false (suc n) bytes y.0 y.1) (some_is (a.0.0 ∷ b.0.0, b.0.1) (entries, rest) b.2) (record {
      parts = first.parts ∙ ap (λ (r : List ℕ). entry a.0.0 ++ r) t.parts ∙ sym (append_assoc (entry a.0.0) (flat_map entry b.0.0) b.0.1) ∙ ap (λ (r : List ℕ). r ++ b.0.1) (sym (flat_map-cons entry a.0.0 b.0.0));
      rest_bytes = t.rest_bytes;
      fits = (first.fits, t.fits);
      len = ap suc t.len;
    })

entries_again : (unusable : Bool) (entries : List PoolEntry) (rest : List ℕ) → FitsFrom unusable entries → entries_at unusable (length entries) (flat_map entry entries ++ rest) ≡ Some (entries, rest)
unfolding entries_at slot_at
entries_again true [] rest fits = absurd cc
entries_again false [] rest fits = refl
entries_again true (e ∷ entries) rest fits =
    let is : e ≡ Unusable = fits.0 in
    rw (is, entries_again false entries rest fits.1) refl
entries_again false (e ∷ entries) rest fits =
    let regrouped : flat_map entry (e ∷ entries) ++ rest ≡ entry e ++ (flat_map entry entries ++ rest) = ap (λ (x : List ℕ). x ++ rest) (flat_map-cons entry e entries) ∙ append_assoc (entry e) (flat_map entry entries) rest in
    ap (entries_at false (suc (length entries))) regrouped ∙ rw (entry_again e (flat_map entry entries ++ rest) fits.0, entries_again (is_wide e) entries rest fits.1) refl

entries_bytes : (unusable : Bool) (entries : List PoolEntry) → FitsFrom unusable entries → IsBytes (flat_map entry entries)
entries_bytes unusable [] fits = tt
entries_bytes true (e ∷ entries) fits =
    let is : e ≡ Unusable = fits.0 in
    subst IsBytes (sym (flat_map-cons entry e entries ∙ ap (λ (x : PoolEntry). entry x ++ flat_map entry entries) is)) (entries_bytes false entries fits.1)
entries_bytes false (e ∷ entries) fits =
    subst IsBytes (sym (flat_map-cons entry e entries)) (append-IsBytes (entry e) (flat_map entry entries) (entry_bytes e fits.0) (entries_bytes (is_wide e) entries fits.1))

-- ---- the pool

pub pool_codec : Codec pool_at pool_text FitsPool
unfolding pool_at
pool_codec = record { takes = takes; again = again; bytes = λ pool fits. append-IsBytes (u2 (length pool)) (flat_map entry pool) (u2_codec.bytes (length pool) fits.1) (entries_bytes true pool fits.0) } where
  takes : (bytes : List ℕ) (pool : List PoolEntry) (rest : List ℕ) → IsBytes bytes → (u2_at bytes >>= λ count. entries_at true count.0 count.1) ≡ Some (pool, rest) → Took pool_text FitsPool bytes pool rest
  takes bytes pool rest fits h =
      let a = bind_some (u2_at bytes) (λ count. entries_at true count.0 count.1) (pool, rest) h in
      let n = a.0.0 in
      let first = u2_codec.takes bytes n a.0.1 fits a.1 in
      let t = entries_take true n a.0.1 pool rest first.rest_bytes a.2 in
      record {
        parts = first.parts ∙ ap (λ (r : List ℕ). u2 n ++ r) t.parts ∙ sym (append_assoc (u2 n) (flat_map entry pool) rest) ∙ ap (λ (k : ℕ). (u2 k ++ flat_map entry pool) ++ rest) (sym t.len);
        rest_bytes = t.rest_bytes;
        fits = (t.fits, omega (arith, first.fits, t.len));
      }

  again : (pool : List PoolEntry) (rest : List ℕ) → FitsPool pool → (u2_at (pool_text pool ++ rest) >>= λ count. entries_at true count.0 count.1) ≡ Some (pool, rest)
  again pool rest fits =
      let small : length pool < 65536 = fits.1 in
      ap (λ (b : List ℕ). u2_at b >>= λ count. entries_at true count.0 count.1) (append_assoc (u2 (length pool)) (flat_map entry pool) rest)
      ∙ ap (λ (r : Read ℕ). r >>= λ count. entries_at true count.0 count.1) (u2_codec.again (length pool) (flat_map entry pool ++ rest) small)
      ∙ entries_again true pool rest fits.0
