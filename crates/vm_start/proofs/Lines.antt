-- The lines of a class list.
use Rattle.std.proofs.Common.{◌≡◌, ℕ, zero, suc, ◌+◌, add-one, List, [], ◌∷◌, ◌++◌, drop, Some, slice_get, sym, ◌∙◌, ap, append_assoc}
use Rattle.class_record.specs.Files.{Name}
use Rattle.class_record.specs.ClassList.{class_list}

line_here : (names : List Name) (k : ℕ) (name : Name) → slice_get names k ≡ Some name → class_list (drop k names) ≡ name ++ 10 ∷ class_list (drop (suc k) names)
line_here [] k name h = absurd cc
line_here (n ∷ names) zero name h = let e : n ≡ name = cc in ap (λ (m : Name). m ++ 10 ∷ class_list names) e
line_here (n ∷ names) (suc k) name h = line_here names k name h

line_at : (names : List Name) (k : ℕ) (name : Name) → slice_get names k ≡ Some name → class_list (drop k names) ≡ name ++ 10 ∷ class_list (drop (k + 1) names)
line_at names k name h = rw add-one (line_here names k name h)

joined : (before name rest : List ℕ) → (before ++ (name ++ 10 ∷ [])) ++ rest ≡ before ++ (name ++ 10 ∷ rest)
joined before name rest = append_assoc before (name ++ 10 ∷ []) rest ∙ ap (λ (text : List ℕ). before ++ text) (append_assoc name (10 ∷ []) rest)

-- What is written and the lines that are left are the whole list, and stay it with the next line.
pub line_written : (before after : List ℕ) (names : List Name) (k : ℕ) (name : Name) → slice_get names k ≡ Some name → after ≡ before ++ (name ++ 10 ∷ [])
    → before ++ class_list (drop k names) ≡ class_list names → after ++ class_list (drop (k + 1) names) ≡ class_list names
line_written before after names k name at written h =
    ap (λ (text : List ℕ). text ++ class_list (drop (k + 1) names)) written
    ∙ joined before name (class_list (drop (k + 1) names))
    ∙ ap (λ (text : List ℕ). before ++ text) (sym (line_at names k name at))
    ∙ h
