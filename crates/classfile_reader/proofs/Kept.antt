-- Looking for an attribute by its name, as a loop does.
use Rattle.std.proofs.Common.{◌≡◌, ℕ, suc, ◌+◌, ◌<◌, ◌≤◌, Bool, true, false, List, ◌∷◌, ◌++◌, length, drop, get_or, Option, Some, None, refl, sym, ap, ◌∙◌, drop-cons, add-one}
use Rattle.std.specs.Option.{option_to_list}
use Rattle.std.proofs.lemmas.List.{drop_all}
use Rattle.class_tree.specs.declared.constant_pool.PoolEntry.{PoolEntry}
use Rattle.class_tree.specs.declared.fault.FormatFault.{FormatFault}
use Rattle.class_tree.specs.declared.fault.FormatFault.TheVariants.{NotClass, Version, Memory}
use Rattle.class_tree.specs.Outcomes.{Fails}
use Rattle.class_tree.specs.ClassFiles.{Attribute}
use Rattle.class_tree.specs.Trees.{is_text, contents, at_most_one}
use Rattle.classfile_reader.specs.PartAnswers.{kept}

-- what was found, with what is still looked at
abbrev pub found_in : List PoolEntry → List ℕ → Option (List ℕ) → List Attribute → Option (Option (List ℕ))
found_in pool name found rest = at_most_one (option_to_list found ++ contents pool name rest)

step_cons : (pool : List PoolEntry) (name : List ℕ) (found next : Option (List ℕ)) (named : Bool) (a : Attribute) (rest : List Attribute) → named ≡ is_text pool a.name name → kept found named a.content ≡ Some next → found_in pool name found (a ∷ rest) ≡ found_in pool name next rest
step_cons pool name found next false a rest is h = let e : found ≡ next = cc in rw (← is, ← e) refl
step_cons pool name None next true a rest is h = let e : Some a.content ≡ next = cc in rw (← is, ← e) refl
step_cons pool name (Some x) next true a rest is h = absurd cc

fault_cons : (pool : List PoolEntry) (name : List ℕ) (found : Option (List ℕ)) (named : Bool) (a : Attribute) (rest : List Attribute) → named ≡ is_text pool a.name name → kept found named a.content ≡ None → found_in pool name found (a ∷ rest) ≡ None
fault_cons pool name found false a rest is h = absurd cc
fault_cons pool name None true a rest is h = absurd cc
fault_cons pool name (Some x) true a rest is h = rw (← is) refl

pub found_goes_on : (pool : List PoolEntry) (name : List ℕ) (found next : Option (List ℕ)) (attributes : List Attribute) (i : ℕ) (a : Attribute) (total : Option (Option (List ℕ))) → i < length attributes → a ≡ get_or attributes i a → kept found (is_text pool a.name name) a.content ≡ Some next
    → found_in pool name found (drop i attributes) ≡ total → found_in pool name next (drop (i + 1) attributes) ≡ total
found_goes_on pool name found next attributes i a total lt at h so_far =
    let e : drop i attributes ≡ a ∷ drop (i + 1) attributes = rw add-one (drop-cons attributes i a lt ∙ ap (λ (x : Attribute). x ∷ drop (suc i) attributes) (sym at)) in
    sym (step_cons pool name found next (is_text pool a.name name) a (drop (i + 1) attributes) refl h) ∙ ap (found_in pool name found) (sym e) ∙ so_far

pub found_ends : (pool : List PoolEntry) (name : List ℕ) (found : Option (List ℕ)) (attributes : List Attribute) (i : ℕ) (a : Attribute) (total : Option (Option (List ℕ))) (f : FormatFault) → i < length attributes → a ≡ get_or attributes i a → Fails f (kept found (is_text pool a.name name) a.content)
    → found_in pool name found (drop i attributes) ≡ total → Fails f total
found_ends pool name found attributes i a total Memory lt at h so_far = tt
found_ends pool name found attributes i a total (Version x y) lt at h so_far = h
found_ends pool name found attributes i a total NotClass lt at h so_far =
    let e : drop i attributes ≡ a ∷ drop (i + 1) attributes = rw add-one (drop-cons attributes i a lt ∙ ap (λ (x : Attribute). x ∷ drop (suc i) attributes) (sym at)) in
    sym so_far ∙ ap (found_in pool name found) e ∙ fault_cons pool name found (is_text pool a.name name) a (drop (i + 1) attributes) refl h

pub found_is_done : (pool : List PoolEntry) (name : List ℕ) (found : Option (List ℕ)) (attributes : List Attribute) (i : ℕ) (total : Option (Option (List ℕ))) → length attributes ≤ i → found_in pool name found (drop i attributes) ≡ total → total ≡ Some found
found_is_done pool name None attributes i total le so_far = sym so_far ∙ ap (found_in pool name None) (drop_all i attributes le)
found_is_done pool name (Some x) attributes i total le so_far = sym so_far ∙ ap (found_in pool name (Some x)) (drop_all i attributes le)
