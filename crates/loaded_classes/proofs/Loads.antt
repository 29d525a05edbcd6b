-- What is held once a class is loaded.
use Rattle.std.proofs.Common.{◌≡◌, ℕ, zero, suc, ◌+◌, ◌<◌, ◌≤◌, Bool, true, false, cond, List, [], ◌∷◌, ◌++◌, length, filter, Some, slice_get, refl, sym, ap, subst, ◌∙◌, arith}
use Rattle.std.specs.Str.{bytes_eq}
use Rattle.std.proofs.lemmas.List.{length-map, map-append}
use Rattle.class_record.specs.Files.{Name}
use Rattle.class_tree.specs.ClassNames.{own_name, sup_name, interface_names}
use Rattle.class_record.specs.Facts.{Facts, name_of, names_of}
use Rattle.class_record.specs.Loading.{is_among}
use Rattle.class_record.specs.Ancestors.{newest, superinterfaces_in, superinterfaces_by}
use Rattle.class_record.specs.Built.{size_in}
use Rattle.class_record.specs.Records.{facts_of, instance_fields}
use Rattle.loaded_classes.specs.declared.held.HeldClass.{HeldClass}
use Rattle.loaded_classes.specs.Table.{row_at}
use Rattle.loaded_classes.specs.Held.{IsId, AreIds, IsHeld, facts_in, facts_list, pool_length}
use Rattle.loaded_classes.proofs.Names.{like_itself, among_at, same_name}
use Rattle.loaded_classes.proofs.Grown.{get_left, names_grown, newest_grown, stands_at}
use Rattle.loaded_classes.proofs.Ids.{id_grown, ids_grown}

pub names_length : (held : List HeldClass) → length (names_of (facts_list held)) ≡ length held
names_length held = length-map (facts_list held) name_of ∙ length-map held facts_in

pub facts_grown : (held : List HeldClass) (h : HeldClass) → facts_list (held ++ h ∷ []) ≡ facts_list held ++ facts_in h ∷ []
facts_grown held h = map-append facts_in held (h ∷ [])

-- ---- each class has its words

pub fits_grown : (held : List HeldClass) (words : List (List ℕ)) (h : HeldClass) (row : List ℕ) → length words ≡ length held → length row ≡ length h.tree.pool
    → ((id : ℕ) → length (row_at words id) ≡ pool_length (slice_get held id)) → (id : ℕ) → length (row_at (words ++ row ∷ []) id) ≡ pool_length (slice_get (held ++ h ∷ []) id)
fits_grown [] [] h row e last fits zero = last
fits_grown [] [] h row e last fits (suc id) = refl
fits_grown [] (w ∷ ws) h row e last fits id = absurd (omega arith)
fits_grown (g ∷ gs) [] h row e last fits id = absurd (omega arith)
fits_grown (g ∷ gs) (w ∷ ws) h row e last fits zero = fits zero
fits_grown (g ∷ gs) (w ∷ ws) h row e last fits (suc id) = let less : length ws ≡ length gs = omega arith in fits_grown gs ws h row less last (λ n. fits (suc n)) id

-- ---- a class that was loaded before

pub same_left : (names more : List Name) (of : ℕ) → of ≤ length names → (n : ℕ) → n < of → slice_get (names ++ more) n ≡ slice_get names n
same_left names more of h n less =
    let within : n < length names = omega arith in
    let s = stands_at names n within in
    get_left names more n s.item s.is ∙ sym s.is

module _ (fs : List Facts) (f : Facts) (fresh : is_among (name_of f) (names_of fs) ≡ false) where
  other_by : (b : Bool) (id : ℕ) (name : Name) → slice_get (names_of fs) id ≡ Some name → bytes_eq (name_of f) name ≡ b → b ≡ false
  other_by true id name is e =
      let same : name_of f ≡ name = same_name (name_of f) name e in
      let there : is_among (name_of f) (names_of fs) ≡ true = among_at (names_of fs) (name_of f) id (is ∙ ap (λ (n : Name). Some n) (sym same)) in
      absurd cc
  other_by false id name is e = refl

  other : (id : ℕ) (name : Name) → slice_get (names_of fs) id ≡ Some name → bytes_eq (name_of f) name ≡ false
  other id name is = other_by (bytes_eq (name_of f) name) id name is refl

  superinterfaces_still : (id : ℕ) (name : Name) → slice_get (names_of fs) id ≡ Some name → superinterfaces_in (newest (fs ++ f ∷ [])) name ≡ superinterfaces_in (newest fs) name
  unfolding superinterfaces_in
  superinterfaces_still id name is =
      ap (λ (gs : List Facts). superinterfaces_in gs name) (newest_grown fs f)
      ∙ ap (λ (b : Bool). cond b (superinterfaces_by (superinterfaces_in (newest fs)) f.sup f.interfaces) (superinterfaces_in (newest fs) name)) (other id name is)

  size_still : (id : ℕ) (name : Name) → slice_get (names_of fs) id ≡ Some name → size_in (newest (fs ++ f ∷ [])) name ≡ size_in (newest fs) name
  size_still id name is =
      ap (λ (gs : List Facts). size_in gs name) (newest_grown fs f)
      ∙ ap (λ (b : Bool). cond b f.instance_size (size_in (newest fs) name)) (other id name is)

  pub held_still : (id : ℕ) (h : HeldClass) → id ≤ length (names_of fs) → slice_get (names_of fs) id ≡ Some (own_name h.tree) → IsHeld fs id h → IsHeld (fs ++ f ∷ []) id h
  held_still id h within is right = record {
    short = right.short;
    sup = subst (λ (ns : List Name). IsId ns id (sup_name h.tree) h.sup) (sym (names_grown fs f))
        (id_grown (names_of fs) (name_of f ∷ []) id (sup_name h.tree) h.sup (same_left (names_of fs) (name_of f ∷ []) id within) right.sup);
    interfaces = subst (λ (ns : List Name). AreIds ns id (interface_names h.tree) h.interfaces) (sym (names_grown fs f))
        (ids_grown (names_of fs) (name_of f ∷ []) id (interface_names h.tree) h.interfaces right.interfaces);
    superinterfaces = subst (λ (ns : List Name). AreIds ns id (superinterfaces_in (newest (fs ++ f ∷ [])) (own_name h.tree)) h.superinterfaces) (sym (names_grown fs f))
        (ids_grown (names_of fs) (name_of f ∷ []) id (superinterfaces_in (newest (fs ++ f ∷ [])) (own_name h.tree)) h.superinterfaces
        (subst (λ (ws : List Name). AreIds (names_of fs) id ws h.superinterfaces) (sym (superinterfaces_still id (own_name h.tree) is)) right.superinterfaces));
    slots = right.slots;
    instance_size = right.instance_size;
    static_size = right.static_size;
    size = size_still id (own_name h.tree) is ∙ right.size;
    small = right.small;
  }

-- ---- the class that is loaded

pub filter_short : {A : Type 0} (p : A → Bool) (xs : List A) → length (filter p xs) ≤ length xs
filter_short p [] = omega arith
filter_short p (x ∷ xs) = by (p x) (filter_short p xs)
  where
    by : (b : Bool) → length (filter p xs) ≤ length xs → length (cond b (x ∷ filter p xs) (filter p xs)) ≤ length (x ∷ xs)
    by true h = omega arith
    by false h = omega arith

module _ (fs : List Facts) (h : HeldClass) where
  pub superinterfaces_new : superinterfaces_in (newest (fs ++ facts_in h ∷ [])) (own_name h.tree) ≡ superinterfaces_by (superinterfaces_in (newest fs)) (sup_name h.tree) (interface_names h.tree)
  unfolding superinterfaces_in facts_of
  superinterfaces_new =
      ap (λ (gs : List Facts). superinterfaces_in gs (own_name h.tree)) (newest_grown fs (facts_in h))
      ∙ ap (λ (b : Bool). cond b (superinterfaces_by (superinterfaces_in (newest fs)) (sup_name h.tree) (interface_names h.tree)) (superinterfaces_in (newest fs) (own_name h.tree))) (like_itself (own_name h.tree))

  pub size_new : size_in (newest (fs ++ facts_in h ∷ [])) (own_name h.tree) ≡ h.above + instance_fields h.tree.fields
  unfolding facts_of
  size_new =
      ap (λ (gs : List Facts). size_in gs (own_name h.tree)) (newest_grown fs (facts_in h))
      ∙ ap (λ (b : Bool). cond b (h.above + instance_fields h.tree.fields) (size_in (newest fs) (own_name h.tree))) (like_itself (own_name h.tree))
