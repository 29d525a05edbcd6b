-- The sizes of objects: what the files say of a class that loads is what its facts say, over those of the classes before it.
use Rattle.std.proofs.Common.{◌≡◌, ℕ, ◌+◌, ◌≤◌, add-one, List, [], ◌∷◌, length, map, Bool, true, false, if◌then◌else◌, Option, Some, None, refl, sym, ◌∙◌, ap, subst, arith}
use Rattle.std.specs.Prelude.{sum}
use Rattle.std.specs.Option.{IfSome}
use Rattle.std.specs.Str.{bytes_eq}
use Rattle.std.specs.FinMap.{len}
use Rattle.std.proofs.lemmas.List.Sums.{sum-map, sum_by-cons}
use Rattle.class_record.specs.Files.{Name, RunFiles}
use Rattle.class_tree.specs.ClassNames.{sup_name}
use Rattle.class_record.specs.Loading.{FoundClass, is_among}
use Rattle.class_record.specs.Ancestors.{supers_by, sup_in, supers_up}
use Rattle.class_record.specs.Facts.{Facts, names_of}
use Rattle.class_record.specs.Built.{size_in, size_of_super}
use Rattle.class_record.specs.Records.{instance_fields, facts_of, own_size_in, own_size, size_above, record_of}
use Rattle.class_record.specs.Orders.{IsLoaded, IsOrder}
use Rattle.class_record.specs.Laws.{AreRecorded}
use Rattle.class_record.proofs.Orders.{same_name, unlike_too}
use Rattle.class_record.proofs.Again.{among_tail}
use Rattle.class_record.proofs.OrderRoom.{order_within}
use Rattle.class_record.proofs.Recorded.{IsAmong}
use Rattle.class_record.proofs.Above.{tree_bases, loaded_class, loaded_record, facts_are, supers_enough, supers_next}

-- ---- what the facts of a loaded class say of its size

own_size_is : (p : RunFiles) (older : List Name) (name : Name) (k : IsLoaded p older name) → own_size p name ≡ instance_fields k.tree.fields
own_size_is p older name k = ap own_size_in (loaded_class p older name k)

newest_size : (p : RunFiles) (older : List Name) (f : Facts) → IsLoaded p older f.name → record_of p f.name ≡ Some f → f.instance_size ≡ own_size p f.name + size_above p f.name
unfolding facts_of
newest_size p older f k h =
    let e : f.instance_size ≡ size_above p f.name + instance_fields k.tree.fields = ap (λ (x : Facts). x.instance_size) (facts_are p older f k h) in
    let i : own_size p f.name ≡ instance_fields k.tree.fields = own_size_is p older f.name k in
    sums f.instance_size (size_above p f.name) (instance_fields k.tree.fields) (own_size p f.name) e i
  where
    sums : (size above own also : ℕ) → size ≡ above + own → also ≡ own → size ≡ also + above
    sums size above own also e i = omega arith

size_by_case : (p : RunFiles) (f : Facts) (older : List Facts) (name : Name) → f.instance_size ≡ own_size p f.name + size_above p f.name
    → (IsAmong (names_of older) name → size_in older name ≡ own_size p name + size_above p name) → IsAmong (names_of (f ∷ older)) name
    → (b : Bool) → bytes_eq f.name name ≡ b → (if b then f.instance_size else size_in older name) ≡ own_size p name + size_above p name
size_by_case p f older name here below at true e = subst (λ (y : Name). f.instance_size ≡ own_size p y + size_above p y) (same_name f.name name e) here
size_by_case p f older name here below at false e = below (among_tail name f.name (names_of older) at (unlike_too f.name name e))

-- The size of the objects of a loaded class is that of its own fields and those of all its superclasses.
pub size_is : (p : RunFiles) (facts : List Facts) → IsOrder p (names_of facts) → AreRecorded p facts → (name : Name) → is_among name (names_of facts) ≡ true
    → size_in facts name ≡ own_size p name + size_above p name
size_is p [] o r name at = absurd cc
size_is p (f ∷ older) o r name at =
    size_by_case p f older name (newest_size p (names_of older) f o.0 r.0) (size_is p older o.1 r.1 name) at (bytes_eq f.name name) refl

-- ---- the next class

sum_next : (f : Name → ℕ) (n : Name) (ns : List Name) → sum (map f (n ∷ ns)) ≡ f n + sum (map f ns)
sum_next f n ns = sum-map f (n ∷ ns) ∙ sum_by-cons f n ns ∙ ap (λ (total : ℕ). f n + total) (sym (sum-map f ns))

-- the fields of the superclasses, from the superclass upwards
sizes_from : (p : RunFiles) (facts : List Facts) → IsOrder p (names_of facts) → AreRecorded p facts → length (names_of facts) ≤ len p.contents
    → (sup : Option Name) → IfSome sup (IsAmong (names_of facts)) → sum (map (own_size p) (supers_by (supers_up (len p.contents) p) sup)) ≡ size_of_super facts sup
sizes_from p facts o r small None h = refl
sizes_from p facts o r small (Some s) h =
    sum_next (own_size p) s (supers_up (len p.contents) p s)
    ∙ ap (λ (ns : List Name). own_size p s + sum (map (own_size p) ns)) (supers_enough p (names_of facts) o (len p.contents) (len p.contents + 1) small (omega arith) s h)
    ∙ sym (size_is p facts o r s h)

above_is : (p : RunFiles) (name : Name) (facts : List Facts) (k : IsLoaded p (names_of facts) name) → IsOrder p (names_of facts) → AreRecorded p facts
    → size_above p name ≡ size_of_super facts (sup_name k.tree)
above_is p name facts k o r =
    ap (λ (n : ℕ). sum (map (own_size p) (supers_up n p name))) (add-one (len p.contents))
    ∙ ap (λ (ns : List Name). sum (map (own_size p) ns)) (supers_next (len p.contents) p name)
    ∙ ap (λ (c : Option FoundClass). sum (map (own_size p) (supers_by (supers_up (len p.contents) p) (sup_in c)))) (loaded_class p (names_of facts) name k)
    ∙ sizes_from p facts o r (order_within p (names_of facts) o) (sup_name k.tree) (tree_bases p (names_of facts) name k).sup_among

-- What the files say of the class that is loaded next is what is laid out for it over the facts of those before it.
pub record_is : (p : RunFiles) (name : Name) (facts : List Facts) (k : IsLoaded p (names_of facts) name) → IsOrder p (names_of facts) → AreRecorded p facts
    → record_of p name ≡ Some (facts_of k.file.loader k.file.folder (size_of_super facts (sup_name k.tree)) k.tree)
record_is p name facts k o r =
    loaded_record p (names_of facts) name k ∙ ap (λ (size : ℕ). Some (facts_of k.file.loader k.file.folder size k.tree)) (above_is p name facts k o r)

-- The same for an order whose older names are those of these facts.
pub record_next : (p : RunFiles) (name : Name) (older : List Name) (facts : List Facts) (o : IsOrder p (name ∷ older)) → names_of facts ≡ older → AreRecorded p facts
    → record_of p name ≡ Some (facts_of o.0.file.loader o.0.file.folder (size_of_super facts (sup_name o.0.tree)) o.0.tree)
record_next p name older facts o e r =
    subst (λ (ns : List Name). (i : IsOrder p (name ∷ ns)) → record_of p name ≡ Some (facts_of i.0.file.loader i.0.file.folder (size_of_super facts (sup_name i.0.tree)) i.0.tree))
    e (λ i. record_is p name facts i.0 i.1 r) o
