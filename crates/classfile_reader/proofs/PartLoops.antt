-- Reading and building parts one after the other, as a loop does.
use Rattle.std.proofs.Common.{◌≡◌, ℕ, suc, ◌-◌, ◌+◌, ◌≤◌, ◌<◌, List, [], ◌∷◌, ◌++◌, length, drop, get_or, Option, Some, None, refl, sym, ap, ◌∙◌, append_assoc, drop-cons, add-one}
use Rattle.std.proofs.lemmas.List.{append-nil, drop_all}
use Rattle.jsa_base.specs.Reading.{◌>>=◌, Read, times}
use Rattle.jsa_base.proofs.Loops.{with_front, stops}
use Rattle.class_tree.specs.declared.fault.FormatFault.{FormatFault}
use Rattle.class_tree.specs.declared.fault.FormatFault.TheVariants.{NotClass, Version, Memory}
use Rattle.class_tree.specs.Outcomes.{Fails}
use Rattle.class_tree.specs.Trees.{each}

-- ---- reading

pub ends : {A : Type 0} (item : List ℕ → Read A) (e : FormatFault) (front : List A) (count i : ℕ) (bytes : List ℕ) (total : Read (List A)) → i < count → Fails e (item bytes)
    → with_front front (times item (count - i) bytes) ≡ total → Fails e total
ends item Memory front count i bytes total lt h so_far = tt
ends item (Version minor major) front count i bytes total lt h so_far = h
ends item NotClass front count i bytes total lt h so_far = stops item front count i bytes total lt h so_far

-- ---- building

-- what was built before, and what is still built
abbrev pub behind : {B : Type 0} → List B → Option (List B) → Option (List B)
behind front built = built >>= λ xs. Some (front ++ xs)

regroup_built : {B : Type 0} (front : List B) (y : B) (built : Option (List B)) → behind front (built >>= λ xs. Some (y ∷ xs)) ≡ behind (front ++ y ∷ []) built
regroup_built {B} front y (Some xs) = ap (λ (ys : List B). Some ys) (simp append_assoc)
regroup_built front y None = refl

pub each_goes_on : {A B : Type 0} (make : A → Option B) (front : List B) (xs : List A) (i : ℕ) (x : A) (y : B) (total : Option (List B)) → i < length xs → x ≡ get_or xs i x → make x ≡ Some y
    → behind front (each make (drop i xs)) ≡ total → behind (front ++ y ∷ []) (each make (drop (i + 1) xs)) ≡ total
unfolding each
each_goes_on {A} {B} make front xs i x y total lt at h so_far =
    let e : drop i xs ≡ x ∷ drop (i + 1) xs = rw add-one (drop-cons xs i x lt ∙ ap (λ (z : A). z ∷ drop (suc i) xs) (sym at)) in
    let one : behind front (each make (drop i xs)) ≡ behind (front ++ y ∷ []) (each make (drop (i + 1) xs)) = ap (λ (zs : List A). behind front (each make zs)) e ∙ rw h (regroup_built front y (each make (drop (i + 1) xs))) in
    sym one ∙ so_far

pub each_ends : {A B : Type 0} (make : A → Option B) (e : FormatFault) (front : List B) (xs : List A) (i : ℕ) (x : A) (total : Option (List B)) → i < length xs → x ≡ get_or xs i x → Fails e (make x)
    → behind front (each make (drop i xs)) ≡ total → Fails e total
unfolding each
each_ends make Memory front xs i x total lt at h so_far = tt
each_ends make (Version minor major) front xs i x total lt at h so_far = h
each_ends {A} {B} make NotClass front xs i x total lt at h so_far =
    let e : drop i xs ≡ x ∷ drop (i + 1) xs = rw add-one (drop-cons xs i x lt ∙ ap (λ (z : A). z ∷ drop (suc i) xs) (sym at)) in
    let one : behind front (each make (drop i xs)) ≡ None = ap (λ (zs : List A). behind front (each make zs)) e ∙ rw h refl in
    sym so_far ∙ one

pub each_is_done : {A B : Type 0} (make : A → Option B) (front : List B) (xs : List A) (i : ℕ) (total : Option (List B)) → length xs ≤ i → behind front (each make (drop i xs)) ≡ total → total ≡ Some front
unfolding each
each_is_done {A} {B} make front xs i total le so_far =
    let one : behind front (each make (drop i xs)) ≡ Some front = ap (λ (zs : List A). behind front (each make zs)) (drop_all i xs le) ∙ ap (λ (ys : List B). Some ys) (append-nil front) in
    sym so_far ∙ one
