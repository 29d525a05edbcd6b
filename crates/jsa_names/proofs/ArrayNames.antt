-- An array by the name of its component, and by the type that it is read as.
use Rattle.std.proofs.Common.{◌≡◌, ℕ, zero, suc, ◌-◌, ◌≤◌, Bool, true, false, cond, Some, None, List, [], ◌∷◌, ◌++◌, length, drop, replicate, refl, sym, ap, subst, ◌∙◌, arith, nat_lt}
use Rattle.std.specs.List.{prefix_len}
use Rattle.std.proofs.Math.ListN.{length-replicate}
use Rattle.std.proofs.Math.Seq.{take-append_seam, drop-append_seam}
use Rattle.std.proofs.lemmas.List.{length-append, drop_at}
use Rattle.jsa_names.specs.Types.{JavaType, Byte, Char, Double, Float, Int, Long, Short, Boolean, Class, Array, field_type_of, spelling, FitsElement}
use Rattle.jsa_names.specs.Arrays.{is_bracket, is_array, dimensions, before_semicolon, class_of, element_name, component_name, descriptor_of, array_over, class_in, HasComponent}
use Rattle.jsa_names.proofs.FieldSpelled.{field_takes}

last_semicolon : (text : List ℕ) → before_semicolon (text ++ 59 ∷ []) ≡ Some text
last_semicolon text =
    let n : length (text ++ 59 ∷ []) - 1 ≡ length text = omega (arith, length-append text (59 ∷ [])) in
    rw (n, drop-append_seam text (59 ∷ []), take-append_seam text (59 ∷ [])) refl

-- ---- an array over a name

no_brackets : (name : List ℕ) → is_array name ≡ false → prefix_len is_bracket name ≡ 0
no_brackets [] h = refl
no_brackets (b ∷ rest) h = rw h refl

over_array : (name : List ℕ) → is_array name ≡ true → HasComponent name (91 ∷ name)
unfolding component_name dimensions
over_array name h = (rw h refl, omega arith)

over_class : (name : List ℕ) → is_array name ≡ false → HasComponent name (91 ∷ 76 ∷ (name ++ 59 ∷ []))
unfolding component_name dimensions
over_class name h = (last_semicolon name, ap suc (sym (no_brackets name h)))

over_name : (name : List ℕ) (b : Bool) → is_array name ≡ b → HasComponent name (91 ∷ cond b name (76 ∷ (name ++ 59 ∷ [])))
over_name name true h = over_array name h
over_name name false h = over_class name h

if_some : (b : Bool) (x y : List ℕ) → cond b (Some x) None ≡ Some y → x ≡ y
if_some true x y h = cc
if_some false x y h = absurd cc

pub has_component : (name array : List ℕ) → array_over name ≡ Some array → HasComponent name array
unfolding array_over
has_component name array h =
    subst (HasComponent name) (if_some (nat_lt (dimensions name) 255) (91 ∷ descriptor_of name) array h) (over_name name (is_array name) refl)

-- ---- an array type

brackets_are : (depth : ℕ) (element : JavaType) → FitsElement element → prefix_len is_bracket (replicate depth 91 ++ spelling element) ≡ depth
brackets_are zero Byte h = refl
brackets_are zero Char h = refl
brackets_are zero Double h = refl
brackets_are zero Float h = refl
brackets_are zero Int h = refl
brackets_are zero Long h = refl
brackets_are zero Short h = refl
brackets_are zero Boolean h = refl
brackets_are zero (Class name) h = refl
brackets_are zero (Array depth element) h = absurd h
brackets_are (suc n) element h = omega (arith, brackets_are n element h)

class_is : (element : JavaType) → FitsElement element → class_of (spelling element) ≡ class_in element
class_is Byte h = refl
class_is Char h = refl
class_is Double h = refl
class_is Float h = refl
class_is Int h = refl
class_is Long h = refl
class_is Short h = refl
class_is Boolean h = refl
class_is (Class name) h = last_semicolon name
class_is (Array depth element) h = absurd h

element_is : (depth : ℕ) (element : JavaType) → 1 ≤ depth → FitsElement element → element_name (replicate depth 91 ++ spelling element) ≡ class_in element
unfolding element_name dimensions
element_is zero element le h = absurd (omega arith)
element_is (suc n) element le h =
    let front : drop (prefix_len is_bracket (replicate (suc n) 91 ++ spelling element)) (replicate (suc n) 91 ++ spelling element) ≡ spelling element
    = ap (λ (k : ℕ). drop k (replicate (suc n) 91 ++ spelling element)) (brackets_are (suc n) element h)
    ∙ drop_at (replicate (suc n) 91) (spelling element) (suc n) (length-replicate (suc n) 91) in
    ap class_of front ∙ class_is element h

pub dimensions_are : (name : List ℕ) (depth : ℕ) (element : JavaType) → FitsElement element → field_type_of name ≡ Some (Array depth (spelling element)) → dimensions name ≡ depth
unfolding dimensions
dimensions_are name depth element fits h =
    let p = field_takes name (Array depth (spelling element)) h in
    ap (prefix_len is_bracket) p.0 ∙ brackets_are depth element fits

pub element_named : (name : List ℕ) (depth : ℕ) (element : JavaType) → FitsElement element → field_type_of name ≡ Some (Array depth (spelling element)) → element_name name ≡ class_in element
element_named name depth element fits h =
    let p = field_takes name (Array depth (spelling element)) h in
    ap element_name p.0 ∙ element_is depth element p.1.0 fits
