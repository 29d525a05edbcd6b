-- A class is loaded: what is held stays right.
use Rattle.std.proofs.Common.{◌≡◌, ℕ, ◌+◌, ◌*◌, ◌<◌, ◌≤◌, Bool, true, false, cond, List, [], ◌∷◌, ◌++◌, length, length-append, replicate, not, Option, Some, None, slice_get, sym, ap, subst, ◌∙◌, ◌⊎◌, inl, inr, arith}
use Rattle.std.specs.Global.{Vec}
use Rattle.std.specs.HashMap.{HashMap}
use Rattle.std.specs.List.{AllByRecursion}
use Rattle.std.specs.Str.{bytes_eq}
use Rattle.std.proofs.lemmas.Option.{slice_get_within}
use Rattle.std.proofs.lemmas.List.{length-map, length-replicate, map-append}
use Rattle.class_tree.specs.declared.tree.ClassTree.{ClassTree}
use Rattle.class_tree.specs.declared.tree.FieldTree.{FieldTree}
use Rattle.loader_rules.specs.declared.loader.Loader.{Loader}
use Rattle.class_record.specs.declared.fault.TheConstants.{MAX_LOADED}
use Rattle.class_record.specs.Files.{Name}
use Rattle.class_record.specs.declared.bases.Base.{Base}
use Rattle.class_record.specs.Trees.{HasShortLists, bases_of}
use Rattle.class_tree.specs.ClassNames.{own_name, sup_name, interface_names}
use Rattle.class_record.specs.Facts.{Facts, name_of, names_of}
use Rattle.class_record.specs.Loading.{is_among}
use Rattle.class_record.specs.Ancestors.{newest, superinterfaces_in, superinterfaces_by}
use Rattle.class_record.specs.Built.{AreBuilt, size_of_super}
use Rattle.class_record.specs.Records.{facts_of, instance_fields, is_static}
use Rattle.loaded_classes.specs.declared.held.HeldClass.{HeldClass}
use Rattle.loaded_classes.specs.declared.pushing.LookedUp.{LookedUp}
use Rattle.loaded_classes.specs.Table.{ClassTable, added, next_facts}
use Rattle.loaded_classes.specs.Held.{IsId, AreIds, IsHeld, AreKept, Knows, known_at, facts_in, facts_list, tree_in, trees_list, table_of}
use Rattle.loaded_classes.specs.Bases.{base_id, base_ids, size_at, superinterface_ids}
use Rattle.loaded_classes.specs.Pushing.{IsLookedUp, held_class}
use Rattle.loaded_classes.proofs.Names.{name_is, held_name}
use Rattle.loaded_classes.proofs.Known.{one_place}
use Rattle.loaded_classes.proofs.Grown.{get_grown, names_grown, newest_grown, among_newest}
use Rattle.loaded_classes.proofs.Ids.{id_grown, ids_grown}
use Rattle.loaded_classes.proofs.Inherited.{superinterfaces_ids, held_ids, held_size, size_small}
use Rattle.loaded_classes.proofs.BuiltOn.{built_on, sup_among, interfaces_among}
use Rattle.loaded_classes.proofs.NewNames.{id_known, ids_known, knows_still, knows_more}
use Rattle.loaded_classes.proofs.Loads.{names_length, facts_grown, fits_grown, same_left, held_still, filter_short, superinterfaces_new, size_new}

abbrev pub AreAmong : List Name → ClassTree → Type 0
AreAmong names tree = AllByRecursion (λ (base : Base). is_among base.name names ≡ true) (bases_of tree)

module _ {S : Type 0} (held : List HeldClass) (linked : List Bool) (words : List (List ℕ)) (places : HashMap (Vec ℕ) ℕ S) (kept : AreKept held linked words places)
    (tree : ClassTree) (bases : AreAmong (names_of (facts_list held)) tree) where
  abbrev names : List Name
  names = names_of (facts_list held)

  abbrev sup_id : Option ℕ
  sup_id = base_id places tree.pool tree.sup

  sup_known : IsId names (length held) (sup_name tree) sup_id
  sup_known = id_known places names kept.known (length held) (sup_name tree) (sym (names_length held)) (sup_among (λ (n : Name). is_among n names ≡ true) tree bases)

  interfaces_known : AreIds names (length held) (interface_names tree) (base_ids places tree.pool tree.interfaces)
  interfaces_known = ids_known places names kept.known (length held) tree.pool tree.interfaces (sym (names_length held)) (interfaces_among (λ (n : Name). is_among n names ≡ true) tree bases)

  within_by : (id : Option ℕ) → IsId names (length held) (sup_name tree) id → (n : ℕ) → id ≡ Some n → n < length held
  within_by None i n e = absurd cc
  within_by (Some m) i n e = let same : m ≡ n = cc in let less : m < length held = i.0 in omega arith

  small_above : size_at held sup_id ≤ 65535 * length held
  small_above = size_small held kept.right sup_id (within_by sup_id sup_known)

  -- The sizes of objects fit 32 bits.
  pub room_for_fields : length held < MAX_LOADED → HasShortLists tree → size_at held sup_id + length tree.fields < 4294967296
  room_for_fields few short =
      let above : size_at held sup_id ≤ 65535 * length held = small_above in
      let fields : length tree.fields < 65536 = short.fields in
      let few : length held < 65535 = few in
      omega arith

  pub size_above : size_at held sup_id ≡ size_of_super (newest (facts_list held)) (sup_name tree)
  size_above =
      let h : length held ≤ length names = omega (arith, names_length held) in
      sym (held_size held kept.right h (sup_name tree) sup_id sup_known)

  -- ---- the class

  module _ (loader : Loader) (folder : ℕ) (up : LookedUp) (looked : IsLookedUp held places tree up) (fresh : is_among (own_name tree) names ≡ false) (short : HasShortLists tree) where
    abbrev h : HeldClass
    h = held_class loader folder tree up

    abbrev f : Facts
    f = facts_in h

    above_is : up.above ≡ size_at held sup_id
    above_is = looked.above ∙ ap (size_at held) looked.sup

    superinterfaces_right : AreIds names (length held) (superinterfaces_by (superinterfaces_in (newest (facts_list held))) (sup_name tree) (interface_names tree)) up.superinterfaces
    superinterfaces_right =
        let within : length held ≤ length names = omega (arith, names_length held) in
        subst (λ (ids : List ℕ). AreIds names (length held) (superinterfaces_by (superinterfaces_in (newest (facts_list held))) (sup_name tree) (interface_names tree)) ids)
        (sym (looked.superinterfaces ∙ ap (λ (id : Option ℕ). superinterface_ids held id up.interfaces) looked.sup ∙ ap (superinterface_ids held sup_id) looked.interfaces))
        (superinterfaces_ids names (λ name i j a b. one_place places names name i j kept.known a b) (superinterfaces_in (newest (facts_list held))) held (length held) (held_ids held kept.right) within
        (sup_name tree) sup_id (interface_names tree) (base_ids places tree.pool tree.interfaces) sup_known interfaces_known)

    held_new : IsHeld (facts_list held ++ f ∷ []) (length held) h
    held_new =
        let within : length held ≤ length names = omega (arith, names_length held) in
        let small : size_at held sup_id ≤ 65535 * length held = small_above in
        let fields : instance_fields tree.fields ≤ length tree.fields = filter_short (λ (g : FieldTree). not (is_static g)) tree.fields in
        let few : length tree.fields < 65536 = short.fields in
        record {
          short = short;
          sup = subst (λ (ns : List Name). IsId ns (length held) (sup_name tree) up.sup) (sym (names_grown (facts_list held) f))
              (id_grown names (name_of f ∷ []) (length held) (sup_name tree) up.sup (same_left names (name_of f ∷ []) (length held) within)
              (subst (λ (id : Option ℕ). IsId names (length held) (sup_name tree) id) (sym looked.sup) sup_known));
          interfaces = subst (λ (ns : List Name). AreIds ns (length held) (interface_names tree) up.interfaces) (sym (names_grown (facts_list held) f))
              (ids_grown names (name_of f ∷ []) (length held) (interface_names tree) up.interfaces
              (subst (λ (ids : List ℕ). AreIds names (length held) (interface_names tree) ids) (sym looked.interfaces) interfaces_known));
          superinterfaces = subst (λ (ns : List Name). AreIds ns (length held) (superinterfaces_in (newest (facts_list held ++ f ∷ [])) (own_name tree)) up.superinterfaces) (sym (names_grown (facts_list held) f))
              (ids_grown names (name_of f ∷ []) (length held) (superinterfaces_in (newest (facts_list held ++ f ∷ [])) (own_name tree)) up.superinterfaces
              (subst (λ (ws : List Name). AreIds names (length held) ws up.superinterfaces) (sym (superinterfaces_new (facts_list held) h)) superinterfaces_right));
          slots = looked.slots;
          instance_size = looked.instance_size;
          static_size = looked.static_size;
          size = size_new (facts_list held) h ∙ sym looked.instance_size;
          small = omega (arith, looked.instance_size, above_is);
        }

    fresh_name : is_among (name_of f) names ≡ false
    fresh_name = ap (λ (n : Name). is_among n names) (name_is h) ∙ fresh

    right_by : (id : ℕ) (x : HeldClass) → (slice_get held id ≡ Some x) ⊎ ((id ≡ length held) × (h ≡ x)) → IsHeld (facts_list held ++ f ∷ []) id x
    right_by id x (inl before) =
        let there : slice_get names id ≡ Some (own_name x.tree) = held_name held id x before in
        let within : id < length names = slice_get_within names id (own_name x.tree) there in
        let at : id ≤ length names = omega arith in
        held_still (facts_list held) f fresh_name id x at there (kept.right id x before)
    right_by id x (inr last) =
        subst (λ (n : ℕ). IsHeld (facts_list held ++ f ∷ []) n x) (sym last.0) (subst (λ (y : HeldClass). IsHeld (facts_list held ++ f ∷ []) (length held) y) last.1 held_new)

    among_older : {A : Type 0} (name : A → Name) (xs : List A) → AllByRecursion (λ (x : A). is_among (name x) names ≡ true) xs → AllByRecursion (λ (x : A). is_among (name x) (names_of (newest (facts_list held))) ≡ true) xs
    among_older name [] all = tt
    among_older name (x ∷ xs) all = (among_newest (name x) (facts_list held) ∙ all.0, among_older name xs all.1)

    built_new : AreBuilt (newest (facts_list held ++ f ∷ []))
    built_new =
        subst AreBuilt (sym (newest_grown (facts_list held) f)) (
          built_on (newest (facts_list held)) loader folder up.above tree (among_newest (own_name tree) (facts_list held) ∙ fresh)
              (among_older (λ (base : Base). base.name) (bases_of tree) bases) short (above_is ∙ size_above),
          kept.built,
        )

    module _ (after : HashMap (Vec ℕ) ℕ S) (few : length held < MAX_LOADED) (notes : (name : Name) → known_at after name ≡ cond (bytes_eq (own_name tree) name) (Some (length held)) (known_at places name)) where
      known_new : Knows after (names_of (facts_list held ++ f ∷ []))
      known_new =
          subst (Knows after) (sym (names_grown (facts_list held) f ∙ ap (λ (n : Name). names ++ n ∷ []) (name_is h)))
          (knows_more places after names (own_name tree) kept.known (length held) (sym (names_length held)) fresh notes)

      -- All is as it is to be.
      pub kept_more : AreKept (held ++ h ∷ []) (linked ++ false ∷ []) (words ++ replicate (length tree.pool) 0 ∷ []) after
      kept_more = record {
        built = subst (λ (fs : List Facts). AreBuilt (newest fs)) (sym (facts_grown held h)) built_new;
        few = omega (arith, length-append held (h ∷ []));
        linked_count = omega (arith, length-append linked (false ∷ []), length-append held (h ∷ []), kept.linked_count);
        word_count = omega (arith, length-append words (replicate (length tree.pool) 0 ∷ []), length-append held (h ∷ []), kept.word_count);
        right = λ id x is. subst (λ (fs : List Facts). IsHeld fs id x) (sym (facts_grown held h)) (right_by id x (get_grown held h id x is));
        fits = fits_grown held words h (replicate (length tree.pool) 0) kept.word_count (length-replicate (length tree.pool) 0) kept.fits;
        known = subst (λ (fs : List Facts). Knows after (names_of fs)) (sym (facts_grown held h)) known_new;
      }

    abbrev table_with : List Facts → List ClassTree → ClassTable
    table_with fs ts = record { classes = fs; trees = ts; linked = linked ++ false ∷ []; words = words ++ replicate (length tree.pool) 0 ∷ [] }

    -- what contracts see of it
    pub table_more : table_of (held ++ h ∷ []) (linked ++ false ∷ []) (words ++ replicate (length tree.pool) 0 ∷ []) ≡ added loader folder tree (table_of held linked words)
    table_more =
        ap (λ (fs : List Facts). table_with fs (trees_list (held ++ h ∷ []))) (facts_grown held h ∙ ap (λ (n : ℕ). facts_list held ++ facts_of loader folder n tree ∷ []) (above_is ∙ size_above))
        ∙ ap (table_with (facts_list held ++ next_facts loader folder tree (facts_list held) ∷ [])) (map-append tree_in held (h ∷ []))

-- Where memory ran out, all is as before.
pub kept_still : {S : Type 0} (held : List HeldClass) (linked : List Bool) (words : List (List ℕ)) (old new : HashMap (Vec ℕ) ℕ S) → AreKept held linked words old → ((name : Name) → known_at new name ≡ known_at old name) → AreKept held linked words new
kept_still held linked words old new kept same = record {
  built = kept.built;
  few = kept.few;
  linked_count = kept.linked_count;
  word_count = kept.word_count;
  right = kept.right;
  fits = kept.fits;
  known = knows_still old new (names_of (facts_list held)) [] kept.known same;
}

-- ---- what a caller shows, of what is held

module _ (held : List HeldClass) (linked : List Bool) (words : List (List ℕ)) (t : ClassTable) (is : table_of held linked words ≡ t) where
  pub bases_held : (tree : ClassTree) → AreAmong (names_of t.classes) tree → AreAmong (names_of (facts_list held)) tree
  bases_held tree all = subst (λ (t : ClassTable). AreAmong (names_of t.classes) tree) (sym is) all

  pub fresh_held : (tree : ClassTree) → is_among (own_name tree) (names_of t.classes) ≡ false → is_among (own_name tree) (names_of (facts_list held)) ≡ false
  fresh_held tree fresh = subst (λ (t : ClassTable). is_among (own_name tree) (names_of t.classes) ≡ false) (sym is) fresh

  pub few_held : length t.classes < MAX_LOADED → length held < MAX_LOADED
  few_held few =
      let less : length (facts_list held) < MAX_LOADED = subst (λ (t : ClassTable). length t.classes < MAX_LOADED) (sym is) few in
      subst (λ (n : ℕ). n < MAX_LOADED) (length-map held facts_in) less

  pub count_held : length held ≡ length t.classes
  count_held = sym (length-map held facts_in) ∙ ap (λ (t : ClassTable). length t.classes) is
