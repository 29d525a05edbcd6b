-- A map with texts as keys is the finite map of their bytes.
use Rattle.std.proofs.Common.{◌≡◌, ℕ, List, [], ◌∷◌, map, length, arith, subst, cond, true, false, refl, sym, ap, ◌∙◌, Option, Some, String}
use Rattle.std.specs.Global.{Vec, Global}
use Rattle.std.specs.Option.{option_map}
use Rattle.std.specs.String.{string_bytes, string_cmp}
use Rattle.std.specs.Ordering.{nat_cmp, eq_by_cmp, match_ordering}
use Rattle.std.specs.declared.cmp.Ordering.{Ordering}
use Rattle.std.specs.declared.cmp.Ordering.TheVariants.{Less, Equal, Greater}
use Rattle.std.specs.Cmp.Lexicographic.{slice_cmp, nat_list_cmp_total}
use Rattle.std.specs.List.{AllByRecursion}
use Rattle.std.specs.List.Sorted.{IsStrictlySortedBy}
use Rattle.std.specs.Map.{lookup, keys_of}
use Rattle.std.specs.BTreeMap.{insert_entry, is_at}
use Rattle.std.specs.FinMap.{get, insert, empty, entries, keys, from_entries, find, put, get-insert, get-from_entries, entries-insert, len-entries, len-empty, same_map, nat_cmp-IsAntisymmetric, slice_cmp-IsAntisymmetric}
use Rattle.std.specs.FinMap.Entries.{by_order, find-put}
use Rattle.jsa_files.specs.Store.{Contents}
use Rattle.jsa_files.specs.Memory.{StoreState, entry, contents_of, paths_of}
use Rattle.jsa_files.specs.Listing.{ListAnswer, Lists, Ascend, classes_below, class_names}
use Rattle.jsa_files.proofs.ClassNames.{ascend_texts}

abbrev paths : List ℕ → List ℕ → Ordering
paths = slice_cmp nat_cmp

entries_put : (es : List (String Global × Vec ℕ)) (k : String Global) (v : Vec ℕ) → map entry (insert_entry string_cmp es k v) ≡ put paths (string_bytes k) v.items (map entry es)
entries_put [] k v = refl
entries_put (e ∷ es) k v =
    elim (paths (string_bytes k) (string_bytes e.0)) as (λ o. map entry (match_ordering o ((k, v) ∷ e ∷ es) ((e.0, v) ∷ es) (e ∷ insert_entry string_cmp es k v))
    ≡ by_order o ((string_bytes k, v.items) ∷ entry e ∷ map entry es) ((string_bytes e.0, v.items) ∷ map entry es) (entry e ∷ put paths (string_bytes k) v.items (map entry es))) [
      | Less ↦ refl
      | Equal ↦ refl
      | Greater ↦ ap (λ (xs : List (List ℕ × List ℕ)). entry e ∷ xs) (entries_put es k v)
    ]

pub contents_insert : (es : List (String Global × Vec ℕ)) (k : String Global) (v : Vec ℕ) → contents_of (insert_entry string_cmp es k v) ≡ insert (contents_of es) (string_bytes k) v.items
contents_insert es k v =
    ap (λ (xs : List (List ℕ × List ℕ)). from_entries {R = paths} xs) (entries_put es k v)
    ∙ same_map nat_list_cmp_total (slice_cmp-IsAntisymmetric nat_cmp-IsAntisymmetric) _ _ (λ q.
    get-from_entries nat_list_cmp_total (put paths (string_bytes k) v.items (map entry es)) q
    ∙ find-put paths nat_list_cmp_total q (string_bytes k) v.items (map entry es)
    ∙ sym (get-insert nat_list_cmp_total (contents_of es) (string_bytes k) v.items q
    ∙ ap (cond (eq_by_cmp paths q (string_bytes k)) (Some v.items)) (get-from_entries nat_list_cmp_total (map entry es) q)))

find_path : (es : List (String Global × Vec ℕ)) (q : List ℕ) → find paths q (map entry es) ≡ option_map (λ v. v.items) (lookup (is_at (λ k. paths q (string_bytes k))) es)
find_path [] q = refl
find_path (e ∷ es) q =
    elim (eq_by_cmp paths q (string_bytes e.0)) as (λ b. cond b (Some e.1.items) (find paths q (map entry es)) ≡ option_map (λ v. v.items) (cond b (Some e.1) (lookup (is_at (λ k. paths q (string_bytes k))) es))) [
      | true ↦ refl
      | false ↦ find_path es q
    ]

pub contents_at : (es : List (String Global × Vec ℕ)) (q : List ℕ) → get (contents_of es) q ≡ option_map (λ v. v.items) (lookup (is_at (λ k. paths q (string_bytes k))) es)
contents_at es q = get-from_entries nat_list_cmp_total (map entry es) q ∙ find_path es q

pub contents_from : (es : List (String Global × Vec ℕ)) (q : List ℕ) (o : Option (Vec ℕ)) → o ≡ lookup (is_at (λ k. paths q (string_bytes k))) es → get (contents_of es) q ≡ option_map (λ v. v.items) o
contents_from es q o h = contents_at es q ∙ ap (λ (r : Option (Vec ℕ)). option_map (λ v. v.items) r) (sym h)

-- The paths of the map are in the order of the entries.
no_entries : {A : Type 0} (es : List A) → length es ≡ 0 → es ≡ []
no_entries [] e = refl
no_entries (x ∷ es) e = absurd (omega (arith, e))

put_first : (k v : List ℕ) (es : List (String Global × Vec ℕ)) → AllByRecursion (λ y. paths k y ≡ Less) (paths_of (keys_of es)) → put paths k v (map entry es) ≡ (k, v) ∷ map entry es
put_first k v [] h = refl
put_first k v (e ∷ es) h = ap (λ o. by_order o ((k, v) ∷ entry e ∷ map entry es) ((string_bytes e.0, v) ∷ map entry es) (entry e ∷ put paths k v (map entry es))) h.0

entries_are : (es : List (String Global × Vec ℕ)) → Ascend (paths_of (keys_of es)) → entries (contents_of es) ≡ map entry es
unfolding IsStrictlySortedBy
entries_are [] h = no_entries _ (sym (len-entries (empty {X = List ℕ} {R = paths})) ∙ len-empty paths (List ℕ))
entries_are (e ∷ es) h =
    entries-insert nat_list_cmp_total (contents_of es) (string_bytes e.0) e.1.items
    ∙ ap (λ (xs : List (List ℕ × List ℕ)). put paths (string_bytes e.0) e.1.items xs) (entries_are es h.1)
    ∙ put_first (string_bytes e.0) e.1.items es h.0

first_of_entries : (es : List (String Global × Vec ℕ)) → map (λ (e : List ℕ × List ℕ). e.0) (map entry es) ≡ paths_of (keys_of es)
first_of_entries [] = refl
first_of_entries (e ∷ es) = ap (λ (xs : List (List ℕ)). string_bytes e.0 ∷ xs) (first_of_entries es)

pub contents_keys : (es : List (String Global × Vec ℕ)) → IsStrictlySortedBy string_cmp (keys_of es) → keys (contents_of es) ≡ paths_of (keys_of es)
contents_keys es h = ap (λ (xs : List (List ℕ × List ℕ)). map (λ (e : List ℕ × List ℕ). e.0) xs) (entries_are es (ascend_texts (keys_of es) h)) ∙ first_of_entries es

pub listed : (m : StoreState) (es : List (String Global × Vec ℕ)) (folder : List ℕ) (r : ListAnswer) → contents_of es ≡ m.contents → IsStrictlySortedBy string_cmp (keys_of es) → Lists (classes_below (paths_of (keys_of es)) folder) r → Lists (class_names m.contents folder) r
listed m es folder r is h answer = subst (λ ps. Lists (classes_below ps folder) r) (sym (contents_keys es h) ∙ ap (λ (c : Contents). keys c) is) answer
