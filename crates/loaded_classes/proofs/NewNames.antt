-- Names that are known, and a name that is new.
use Rattle.std.proofs.Common.{◌≡◌, ℕ, ◌<◌, Bool, true, false, cond, List, [], ◌∷◌, ◌++◌, length, Option, Some, None, slice_get, refl, sym, ap, subst, ◌∙◌, ◌⊎◌, inl, inr, arith}
use Rattle.std.specs.Global.{Vec}
use Rattle.std.specs.HashMap.{HashMap}
use Rattle.std.specs.List.{filter_map, cons_option, AllByRecursion}
use Rattle.std.specs.Option.{IfSome}
use Rattle.std.specs.Str.{bytes_eq}
use Rattle.std.proofs.lemmas.Option.{slice_get_within}
use Rattle.class_tree.specs.declared.constant_pool.PoolEntry.{PoolEntry}
use Rattle.class_tree.specs.WellFormed.{class_name}
use Rattle.class_record.specs.Files.{Name}
use Rattle.class_record.specs.Loading.{is_among}
use Rattle.loaded_classes.specs.Held.{IsId, AreIds, known_at, Knows}
use Rattle.loaded_classes.specs.Bases.{known_of, base_ids}
use Rattle.loaded_classes.proofs.Names.{stands, among_at, same_name, like_itself}
use Rattle.loaded_classes.proofs.Grown.{get_left, get_last, get_grown}

abbrev IsAmongThem : List Name → Name → Type 0
IsAmongThem names name = is_among name names ≡ true

module _ {S : Type 0} (places : HashMap (Vec ℕ) ℕ S) (names : List Name) (k : Knows places names) where
  fresh_by : (o : Option ℕ) (name : Name) → is_among name names ≡ false → known_at places name ≡ o → o ≡ None
  fresh_by None name fresh e = refl
  fresh_by (Some id) name fresh e = let there : is_among name names ≡ true = among_at names name id (k.found name id e) in absurd cc

  -- A new name is unknown.
  pub fresh_unknown : (name : Name) → is_among name names ≡ false → known_at places name ≡ None
  fresh_unknown name fresh = fresh_by (known_at places name) name fresh refl ∙ refl

  -- ---- what a class is based on

  pub id_known : (of : ℕ) (wanted : Option Name) → of ≡ length names → IfSome wanted (IsAmongThem names) → IsId names of wanted (known_of places wanted)
  id_known of None e among = refl
  id_known of (Some name) e among =
      let s = stands names name among in
      let within : s.place < length names = slice_get_within names s.place name s.is in
      let less : s.place < of = omega arith in
      subst (λ (id : Option ℕ). IsId names of (Some name) id) (sym (k.stands s.place name s.is)) (less, s.is)

  ids_by : (of : ℕ) (o : Option Name) (ws : List Name) (ns : List ℕ) → of ≡ length names → AllByRecursion (IsAmongThem names) (cons_option o ws) → (AllByRecursion (IsAmongThem names) ws → AreIds names of ws ns)
      → AreIds names of (cons_option o ws) (cons_option (known_of places o) ns)
  ids_by of None ws ns e all later = later all
  ids_by of (Some name) ws ns e all later =
      let s = stands names name all.0 in
      let within : s.place < length names = slice_get_within names s.place name s.is in
      let less : s.place < of = omega arith in
      subst (λ (id : Option ℕ). AreIds names of (name ∷ ws) (cons_option id ns)) (sym (k.stands s.place name s.is)) (less, s.is, later all.1)

  pub ids_known : (of : ℕ) (pool : List PoolEntry) (indices : List ℕ) → of ≡ length names → AllByRecursion (IsAmongThem names) (filter_map (class_name pool) indices)
      → AreIds names of (filter_map (class_name pool) indices) (base_ids places pool indices)
  unfolding base_ids
  ids_known of pool [] e all = tt
  ids_known of pool (i ∷ is) e all = ids_by of (class_name pool i) (filter_map (class_name pool) is) (base_ids places pool is) e all (ids_known of pool is e)

-- ---- one name more

module _ {S : Type 0} (old new : HashMap (Vec ℕ) ℕ S) (names : List Name) (key : Name) (k : Knows old names) where
  -- Where nothing is noted, the map knows what it knew.
  pub knows_still : ((name : Name) → known_at new name ≡ known_at old name) → Knows new names
  knows_still same = record {
    found = λ name id e. k.found name id (sym (same name) ∙ e);
    stands = λ id name is. same name ∙ k.stands id name is;
  }

  module _ (id : ℕ) (at : id ≡ length names) (fresh : is_among key names ≡ false) (notes : (name : Name) → known_at new name ≡ cond (bytes_eq key name) (Some id) (known_at old name)) where
    found_by : (b : Bool) (name : Name) (n : ℕ) → bytes_eq key name ≡ b → cond b (Some id) (known_at old name) ≡ Some n → slice_get (names ++ key ∷ []) n ≡ Some name
    found_by true name n e is =
        let same : key ≡ name = same_name key name e in
        let there : n ≡ length names = cc in
        subst (λ (m : ℕ). slice_get (names ++ key ∷ []) m ≡ Some name) (sym there) (get_last names key ∙ ap (λ (w : Name). Some w) same)
    found_by false name n e is = get_left names (key ∷ []) n name (k.found name n is)

    old_stays : (b : Bool) (name : Name) (n : ℕ) → bytes_eq key name ≡ b → slice_get names n ≡ Some name → cond b (Some id) (known_at old name) ≡ Some n
    old_stays true name n e is =
        let same : key ≡ name = same_name key name e in
        let there : is_among key names ≡ true = among_at names key n (is ∙ ap (λ (w : Name). Some w) (sym same)) in
        absurd cc
    old_stays false name n e is = k.stands n name is

    stands_by : (name : Name) (n : ℕ) → (slice_get names n ≡ Some name) ⊎ ((n ≡ length names) × (key ≡ name)) → cond (bytes_eq key name) (Some id) (known_at old name) ≡ Some n
    stands_by name n (inl before) = old_stays (bytes_eq key name) name n refl before
    stands_by name n (inr last) =
        let e : bytes_eq key name ≡ true = ap (bytes_eq key) (sym last.1) ∙ like_itself key in
        let same : id ≡ n = at ∙ sym last.0 in
        ap (λ (b : Bool). cond b (Some id) (known_at old name)) e ∙ ap (λ (m : ℕ). Some m) same

    -- The new name is known, and the others as before.
    pub knows_more : Knows new (names ++ key ∷ [])
    knows_more = record {
      found = λ name n e. found_by (bytes_eq key name) name n refl (sym (notes name) ∙ e);
      stands = λ n name is. notes name ∙ stands_by name n (get_grown names key n name is);
    }
