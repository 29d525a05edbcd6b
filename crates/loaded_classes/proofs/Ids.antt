-- Classes in place of their names: what holds of a list of names holds of the places where they stand.
use Rattle.std.proofs.Common.{◌≡◌, ℕ, zero, suc, ◌<◌, ◌≤◌, Bool, true, false, cond, ◌||◌, List, [], ◌∷◌, ◌++◌, nat_eq, Option, Some, None, slice_get, refl, sym, ap, subst, ◌∙◌, inl, inr, arith}
use Rattle.std.specs.List.{list_any}
use Rattle.std.specs.Str.{bytes_eq}
use Rattle.std.proofs.lemmas.Bool.Decides.{eqb_tells}
use Rattle.indexmap.specs.IndexSet.{insert_key}
use Rattle.class_record.specs.Files.{Name}
use Rattle.class_record.specs.Loading.{is_among, appended}
use Rattle.loaded_classes.specs.Held.{IsId, AreIds}
use Rattle.loaded_classes.specs.Bases.{ids_appended}
use Rattle.loaded_classes.proofs.Names.{same_name, like_itself}
use Rattle.loaded_classes.proofs.Grown.{get_left}

-- the class at a place of a list, for the name there
pub id_at : (names : List Name) (of : ℕ) (wanted : List Name) (ids : List ℕ) (k : ℕ) → AreIds names of wanted ids → IsId names of (slice_get wanted k) (slice_get ids k)
id_at names of [] [] k all = refl
id_at names of [] (n ∷ ns) k all = absurd all
id_at names of (w ∷ ws) [] k all = absurd all
id_at names of (w ∷ ws) (n ∷ ns) zero all = (all.0, all.1)
id_at names of (w ∷ ws) (n ∷ ns) (suc k) all = id_at names of ws ns k all.2

-- ---- more classes

pub id_grown : (names more : List Name) (of : ℕ) (wanted : Option Name) (id : Option ℕ) → ((n : ℕ) → n < of → slice_get (names ++ more) n ≡ slice_get names n) → IsId names of wanted id → IsId (names ++ more) of wanted id
id_grown names more of wanted None same i = i
id_grown names more of wanted (Some n) same i = (i.0, same n i.0 ∙ i.1)

pub ids_grown : (names more : List Name) (of : ℕ) (ws : List Name) (ns : List ℕ) → AreIds names of ws ns → AreIds (names ++ more) of ws ns
ids_grown names more of [] [] all = tt
ids_grown names more of [] (n ∷ ns) all = absurd all
ids_grown names more of (w ∷ ws) [] all = absurd all
ids_grown names more of (w ∷ ws) (n ∷ ns) all = (all.0, get_left names more n w all.1, ids_grown names more of ws ns all.2)

pub ids_later : (names : List Name) (of later : ℕ) (ws : List Name) (ns : List ℕ) → of ≤ later → AreIds names of ws ns → AreIds names later ws ns
ids_later names of later [] [] h all = tt
ids_later names of later [] (n ∷ ns) h all = absurd all
ids_later names of later (w ∷ ws) [] h all = absurd all
ids_later names of later (w ∷ ws) (n ∷ ns) h all =
    let first : n < of = all.0 in
    let less : n < later = omega arith in
    (less, all.1, ids_later names of later ws ns h all.2)

-- ---- each once

pub appended-append : (old xs ys : List Name) → appended old (xs ++ ys) ≡ appended (appended old xs) ys
appended-append old [] ys = refl
appended-append old (x ∷ xs) ys = appended-append (cond (is_among x old) old (old ++ x ∷ [])) xs ys

-- No name stands at two places.
abbrev pub Unique : List Name → Type 0
Unique names = (name : Name) (i j : ℕ) → slice_get names i ≡ Some name → slice_get names j ≡ Some name → i ≡ j

module _ (names : List Name) (unique : Unique names) where
  differ : (b : Bool) (w v : Name) (m n : ℕ) → slice_get names m ≡ Some w → slice_get names n ≡ Some v → (m ≡ n → ⊥) → bytes_eq w v ≡ b → b ≡ false
  differ true w v m n a c other e =
      let same : w ≡ v = same_name w v e in
      absurd (other (unique v m n (a ∙ ap (λ (x : Name). Some x) same) c))
  differ false w v m n a c other e = refl

  alike : (w v : Name) (m n : ℕ) → slice_get names m ≡ Some w → slice_get names n ≡ Some v → bytes_eq w v ≡ nat_eq m n
  alike w v m n a c = elim (eqb_tells m n) [
    | inl same ↦
        let there : slice_get names m ≡ Some v = ap (slice_get names) same.1 ∙ c in
        let one : w ≡ v = cc in
        ap (bytes_eq w) (sym one) ∙ like_itself w ∙ sym same.0
    | inr apart ↦ differ (bytes_eq w v) w v m n a c apart.1 refl ∙ sym apart.0
  ]

  among_ids : (of : ℕ) (w : Name) (m : ℕ) (ws : List Name) (ns : List ℕ) → slice_get names m ≡ Some w → AreIds names of ws ns → is_among w ws ≡ list_any (nat_eq m) ns
  among_ids of w m [] [] is all = refl
  among_ids of w m [] (n ∷ ns) is all = absurd all
  among_ids of w m (v ∷ vs) [] is all = absurd all
  among_ids of w m (v ∷ vs) (n ∷ ns) is all =
      ap (λ (b : Bool). b || is_among w vs) (alike w v m n is all.1)
      ∙ ap (λ (b : Bool). nat_eq m n || b) (among_ids of w m vs ns is all.2)

  put_last : (of : ℕ) (w : Name) (m : ℕ) (ws : List Name) (ns : List ℕ) → m < of → slice_get names m ≡ Some w → AreIds names of ws ns → AreIds names of (ws ++ w ∷ []) (ns ++ m ∷ [])
  put_last of w m [] [] less is all = (less, is, tt)
  put_last of w m [] (n ∷ ns) less is all = absurd all
  put_last of w m (v ∷ vs) [] less is all = absurd all
  put_last of w m (v ∷ vs) (n ∷ ns) less is all = (all.0, all.1, put_last of w m vs ns less is all.2)

  insert_by : (b : Bool) (of : ℕ) (w : Name) (m : ℕ) (ws : List Name) (ns : List ℕ) → m < of → slice_get names m ≡ Some w → AreIds names of ws ns
      → AreIds names of (cond b ws (ws ++ w ∷ [])) (cond b ns (ns ++ m ∷ []))
  insert_by true of w m ws ns less is all = all
  insert_by false of w m ws ns less is all = put_last of w m ws ns less is all

  pub insert_ids : (of : ℕ) (w : Name) (m : ℕ) (ws : List Name) (ns : List ℕ) → m < of → slice_get names m ≡ Some w → AreIds names of ws ns
      → AreIds names of (cond (is_among w ws) ws (ws ++ w ∷ [])) (insert_key nat_eq ns m)
  insert_ids of w m ws ns less is all =
      subst (λ (b : Bool). AreIds names of (cond b ws (ws ++ w ∷ [])) (insert_key nat_eq ns m)) (sym (among_ids of w m ws ns is all))
      (insert_by (list_any (nat_eq m) ns) of w m ws ns less is all)

  pub appended_ids : (of : ℕ) (olds : List Name) (old : List ℕ) (ws : List Name) (ns : List ℕ) → AreIds names of olds old → AreIds names of ws ns → AreIds names of (appended olds ws) (ids_appended old ns)
  appended_ids of olds old [] [] before all = before
  appended_ids of olds old [] (n ∷ ns) before all = absurd all
  appended_ids of olds old (w ∷ ws) [] before all = absurd all
  appended_ids of olds old (w ∷ ws) (n ∷ ns) before all =
      appended_ids of (cond (is_among w olds) olds (olds ++ w ∷ [])) (insert_key nat_eq old n) ws ns (insert_ids of w n olds old all.0 all.1 before) all.2
