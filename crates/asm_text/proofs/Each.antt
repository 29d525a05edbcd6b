-- What is made of each, one after the other.
use Rattle.std.proofs.Common.{◌≡◌, ℕ, suc, ◌+◌, ◌<◌, ◌≤◌, Option, Some, None, List, [], ◌∷◌, ◌++◌, length, get_or, drop, refl, sym, ap, ◌∙◌, arith, drop-cons, add-one, append_assoc}
use Rattle.std.proofs.lemmas.List.{drop_all, append-nil}
use Rattle.jsa_base.specs.Reading.{◌>>=◌}
use Rattle.class_tree.specs.Trees.{each}
use Rattle.asm_text.specs.declared.fault.LineFault.{LineFault}
use Rattle.asm_text.specs.declared.fault.LineFault.TheVariants as faults
use Rattle.asm_text.specs.declared.statement.SwitchCase.{SwitchCase}
use Rattle.asm_text.specs.Outcome.{Refuses}
use Rattle.asm_text.specs.Operations.{case_of, cases_of, first_case}

-- what was made before, and what is still made
abbrev pub with_front : {A : Type 0} → List A → Option (List A) → Option (List A)
with_front front made = made >>= λ xs. Some (front ++ xs)

regroup : {A : Type 0} (front : List A) (x : A) (made : Option (List A)) → with_front front (made >>= λ xs. Some (x ∷ xs)) ≡ with_front (front ++ x ∷ []) made
regroup front x (Some xs) = ap Some (sym (append_assoc front (x ∷ []) xs))
regroup front x None = refl

pub goes : {A B : Type 0} (make : A → Option B) (front : List B) (xs : List A) (x : A) (made : B) (i : ℕ) (total : Option (List B)) → i < length xs → x ≡ get_or xs i x → make x ≡ Some made
    → with_front front (each make (drop i xs)) ≡ total → with_front (front ++ made ∷ []) (each make (drop (i + 1) xs)) ≡ total
unfolding each
goes make front xs x made i total lt is h so_far =
    let one : with_front front (each make (drop i xs)) ≡ with_front (front ++ made ∷ []) (each make (drop (i + 1) xs)) = rw (add-one, drop-cons xs i x, ← is, h) (regroup front made (each make (drop (suc i) xs))) in
    sym one ∙ so_far

pub stops : {A B : Type 0} (e : LineFault) (make : A → Option B) (front : List B) (xs : List A) (x : A) (i : ℕ) (total : Option (List B)) → i < length xs → x ≡ get_or xs i x → Refuses e (make x)
    → with_front front (each make (drop i xs)) ≡ total → Refuses e total
unfolding each
stops faults.Memory make front xs x i total lt is h so_far = tt
stops faults.Outside make front xs x i total lt is h so_far =
    let one : with_front front (each make (drop i xs)) ≡ None = rw (drop-cons xs i x, ← is, h) refl in
    sym so_far ∙ one

pub is_done : {A B : Type 0} (make : A → Option B) (front : List B) (xs : List A) (i : ℕ) (total : Option (List B)) → length xs ≤ i → with_front front (each make (drop i xs)) ≡ total → total ≡ Some front
unfolding each
is_done make front xs i total le so_far =
    let one : with_front front (each make (drop i xs)) ≡ Some front = rw (drop_all i xs le) (ap Some (append-nil front)) in
    sym so_far ∙ one

-- ---- the cases of a lookupswitch

abbrev first_others : SwitchCase × List (List ℕ) → Option (List SwitchCase)
first_others x = cases_of x.1 >>= λ others. Some (x.0 ∷ others)

case_then : (first : Option SwitchCase) (rest : List (List ℕ)) → (first >>= λ c. cases_of rest >>= λ others. Some (c ∷ others)) ≡ ((first >>= λ c. Some (c, rest)) >>= first_others)
case_then (Some c) rest = refl
case_then None rest = refl

one_case : (rest : List (List ℕ)) → ¬ (length rest ≡ 0) → cases_of rest ≡ (first_case rest >>= first_others)
unfolding cases_of
one_case [] h = absurd (h refl)
one_case (key ∷ []) h = refl
one_case (key ∷ (label ∷ rest)) h = case_then (case_of key label) rest

pub cases_go : (front : List SwitchCase) (rest behind : List (List ℕ)) (case : SwitchCase) (total : Option (List SwitchCase)) → ¬ (length rest ≡ 0) → first_case rest ≡ Some (case, behind)
    → with_front front (cases_of rest) ≡ total → with_front (front ++ case ∷ []) (cases_of behind) ≡ total
cases_go front rest behind case total some h so_far =
    let one : cases_of rest ≡ (cases_of behind >>= λ others. Some (case ∷ others)) = one_case rest some ∙ ap (λ (o : Option (SwitchCase × List (List ℕ))). o >>= first_others) h in
    sym (regroup front case (cases_of behind)) ∙ sym (ap (with_front front) one) ∙ so_far

pub cases_stop : (e : LineFault) (front : List SwitchCase) (rest : List (List ℕ)) (total : Option (List SwitchCase)) → ¬ (length rest ≡ 0) → Refuses e (first_case rest)
    → with_front front (cases_of rest) ≡ total → Refuses e total
cases_stop faults.Memory front rest total some h so_far = tt
cases_stop faults.Outside front rest total some h so_far =
    let one : cases_of rest ≡ None = one_case rest some ∙ ap (λ (o : Option (SwitchCase × List (List ℕ))). o >>= first_others) h in
    sym so_far ∙ ap (with_front front) one

pub cases_done : (front : List SwitchCase) (rest : List (List ℕ)) (total : Option (List SwitchCase)) → length rest ≡ 0 → with_front front (cases_of rest) ≡ total → total ≡ Some front
unfolding cases_of
cases_done front [] total none so_far = sym so_far ∙ ap Some (append-nil front)
cases_done front (key ∷ rest) total none so_far = absurd (omega arith)
