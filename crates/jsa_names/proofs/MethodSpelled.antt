-- Types of methods are read exactly where they are spelled.
use Rattle.std.proofs.Common.{◌≡◌, ℕ, zero, suc, ◌+◌, ◌≤◌, Bool, true, false, cond, not, eqb, Option, Some, None, List, [], ◌∷◌, ◌++◌, length, take, drop, position, replicate, refl, ap, ap₂, sym, subst, ◌∙◌, arith, nat_le, append_assoc, zero-add}
use Rattle.std.specs.List.{list_all, flat_map, AllByRecursion}
use Rattle.std.specs.Option.{option_map}
use Rattle.std.specs.Str.{bytes_eq}
use Rattle.std.proofs.lemmas.Bool.{le-leb, leb-true, eqb-true}
use Rattle.std.proofs.lemmas.List.{take-append-drop, length-append, drop_at}
use Rattle.std.proofs.lemmas.Slice.Eq.{bytes_eq-Decides}
use Rattle.std.proofs.Math.Seq.{take-append_seam}
use Rattle.std.proofs.Math.ListN.{length-replicate}
use Rattle.jsa_names.specs.Binding.{◌>>=◌}
use Rattle.jsa_names.proofs.Bound.{bind_some}
use Rattle.jsa_names.specs.Types.{JavaType, Byte, Char, Double, Float, Int, Long, Short, Boolean, Class, Array, JavaMethod, base_type, is_semicolon, element_type_of, is_no_bracket, field_type_of, type_length, type_at, more_types, types_at, front_types, slots_of, few_types, result_of, behind_byte, method_type_of, spelling, FitsElement, Fits, result_spelling, FitsResult, method_spelling, FitsMethod}
use Rattle.jsa_names.proofs.Runs.{goes, stops}
use Rattle.jsa_names.proofs.FieldSpelled.{both, position_is, no_semicolons, depth_is, field_again, field_takes}

-- ---- the type at the front

some_is : (t : JavaType) (rest : List ℕ) (x : JavaType × List ℕ) → Some (t, rest) ≡ Some x → (t, rest) ≡ x
some_is t rest x h = cc

fails_in : (q : ℕ → Bool) (xs ys : List ℕ) → list_all q xs ≡ true → list_all q ys ≡ true → list_all q (xs ++ ys) ≡ true
fails_in q [] ys h k = k
fails_in q (x ∷ xs) ys h k = let p = both (q x) (list_all q xs) h in rw (p.0, fails_in q xs ys p.1 k) refl

no_semicolon_before : (depth : ℕ) → list_all (λ x. not (is_semicolon x)) (replicate depth 91) ≡ true
no_semicolon_before zero = refl
no_semicolon_before (suc n) = no_semicolon_before n

semicolon_is : (depth : ℕ) (name rest : List ℕ) → FitsElement (Class name) → position is_semicolon (replicate depth 91 ++ (spelling (Class name) ++ rest)) ≡ Some (length (replicate depth 91 ++ 76 ∷ name))
semicolon_is depth name rest h =
    let parts : replicate depth 91 ++ (spelling (Class name) ++ rest) ≡ (replicate depth 91 ++ 76 ∷ name) ++ 59 ∷ rest =
    ap (λ (l : List ℕ). replicate depth 91 ++ 76 ∷ l) (append_assoc name (59 ∷ []) rest) ∙ sym (append_assoc (replicate depth 91) (76 ∷ name) (59 ∷ rest)) in
    ap (position is_semicolon) parts
    ∙ position_is is_semicolon (replicate depth 91 ++ 76 ∷ name) rest 59 (fails_in (λ x. not (is_semicolon x)) (replicate depth 91) (76 ∷ name) (no_semicolon_before depth) (no_semicolons name h)) refl

class_long : (depth : ℕ) (name : List ℕ) → length (replicate depth 91 ++ 76 ∷ name) + 1 ≡ depth + length (spelling (Class name))
class_long depth name = omega (arith, length-append (replicate depth 91) (76 ∷ name), length-replicate {A = ℕ} depth 91, length-append name (59 ∷ []))

-- how many bytes a descriptor takes that stands behind brackets
element_length : (depth : ℕ) (t : JavaType) (rest : List ℕ) → FitsElement t → type_length (replicate depth 91 ++ (spelling t ++ rest)) ≡ Some (depth + length (spelling t))
unfolding type_length
element_length depth Byte rest h = rw (depth_is depth Byte rest h, drop_at (replicate depth 91) (66 ∷ rest) depth (length-replicate depth 91)) refl
element_length depth Char rest h = rw (depth_is depth Char rest h, drop_at (replicate depth 91) (67 ∷ rest) depth (length-replicate depth 91)) refl
element_length depth Double rest h = rw (depth_is depth Double rest h, drop_at (replicate depth 91) (68 ∷ rest) depth (length-replicate depth 91)) refl
element_length depth Float rest h = rw (depth_is depth Float rest h, drop_at (replicate depth 91) (70 ∷ rest) depth (length-replicate depth 91)) refl
element_length depth Int rest h = rw (depth_is depth Int rest h, drop_at (replicate depth 91) (73 ∷ rest) depth (length-replicate depth 91)) refl
element_length depth Long rest h = rw (depth_is depth Long rest h, drop_at (replicate depth 91) (74 ∷ rest) depth (length-replicate depth 91)) refl
element_length depth Short rest h = rw (depth_is depth Short rest h, drop_at (replicate depth 91) (83 ∷ rest) depth (length-replicate depth 91)) refl
element_length depth Boolean rest h = rw (depth_is depth Boolean rest h, drop_at (replicate depth 91) (90 ∷ rest) depth (length-replicate depth 91)) refl
element_length depth (Class name) rest h =
    let begun : type_length (replicate depth 91 ++ (spelling (Class name) ++ rest)) ≡ (position is_semicolon (replicate depth 91 ++ (spelling (Class name) ++ rest)) >>= λ n. Some (n + 1)) =
    rw (depth_is depth (Class name) rest h, drop_at (replicate depth 91) (spelling (Class name) ++ rest) depth (length-replicate depth 91)) refl in
    begun ∙ ap (λ (o : Option ℕ). o >>= λ n. Some (n + 1)) (semicolon_is depth name rest h)
    ∙ ap (λ (n : ℕ). Some n) (class_long depth name)
element_length depth (Array n element) rest h = absurd h

type_long : (t : JavaType) (rest : List ℕ) → Fits t → type_length (spelling t ++ rest) ≡ Some (length (spelling t))
type_long Byte rest h = element_length 0 Byte rest tt
type_long Char rest h = element_length 0 Char rest tt
type_long Double rest h = element_length 0 Double rest tt
type_long Float rest h = element_length 0 Float rest tt
type_long Int rest h = element_length 0 Int rest tt
type_long Long rest h = element_length 0 Long rest tt
type_long Short rest h = element_length 0 Short rest tt
type_long Boolean rest h = element_length 0 Boolean rest tt
type_long (Class name) rest h = element_length 0 (Class name) rest h ∙ ap (λ (n : ℕ). Some n) (zero-add (length (spelling (Class name))))
type_long (Array depth element) rest h =
    let e = h.2.1 in
    let parts : (replicate depth 91 ++ element) ++ rest ≡ replicate depth 91 ++ (spelling h.2.0 ++ rest) = append_assoc (replicate depth 91) element rest ∙ ap (λ (l : List ℕ). replicate depth 91 ++ (l ++ rest)) e in
    let long : depth + length (spelling h.2.0) ≡ length (replicate depth 91 ++ element) = omega (arith, length-append (replicate depth 91) element, length-replicate {A = ℕ} depth 91, ap length e) in
    ap type_length parts ∙ element_length depth h.2.0 rest h.2.2 ∙ ap (λ (n : ℕ). Some n) long

type_again : (t : JavaType) (rest : List ℕ) → Fits t → type_at (spelling t ++ rest) ≡ Some (t, rest)
unfolding type_at
type_again t rest h =
    rw (type_long t rest h, take-append_seam (spelling t) rest, field_again t h, drop_at (spelling t) rest (length (spelling t)) refl) refl

type_takes : (bytes : List ℕ) (x : JavaType × List ℕ) → type_at bytes ≡ Some x → (bytes ≡ spelling x.0 ++ x.1) × Fits x.0
unfolding type_at
type_takes bytes x h =
    let long = bind_some (type_length bytes) (λ n. (field_type_of (take n bytes) >>= λ t. Some (t, drop n bytes))) x h in
    let found = bind_some (field_type_of (take long.0 bytes)) (λ t. Some (t, drop long.0 bytes)) x long.2 in
    let same : (found.0, drop long.0 bytes) ≡ x = some_is found.0 (drop long.0 bytes) x found.2 in
    let spelled = field_takes (take long.0 bytes) found.0 found.1 in
    let P : JavaType × List ℕ → Type 0 = λ y. (bytes ≡ spelling y.0 ++ y.1) × Fits y.0 in
    subst P same (sym (take-append-drop long.0 bytes) ∙ ap (λ (l : List ℕ). l ++ drop long.0 bytes) spelled.0, spelled.1)

-- ---- types one after the other

abbrev RunTaken : List ℕ → List JavaType × List ℕ → Type 0
RunTaken bytes r = (bytes ≡ flat_map spelling r.0 ++ r.1) × AllByRecursion Fits r.0

run_takes : (n : ℕ) (bytes : List ℕ) → RunTaken bytes (types_at n bytes)
unfolding types_at
run_takes zero bytes = (refl, tt)
run_takes (suc n) bytes =
    elim (type_at bytes) as (λ o. type_at bytes ≡ o → RunTaken bytes (more_types bytes o (types_at n))) [
      | Some x ↦ λ e.
          let first = type_takes bytes x e in
          let others = run_takes n x.1 in
          (first.0 ∙ ap (λ (l : List ℕ). spelling x.0 ++ l) others.0 ∙ sym (append_assoc (spelling x.0) (flat_map spelling (types_at n x.1).0) (types_at n x.1).1), (first.1, others.1))
      | None ↦ λ e. (refl, tt)
    ] refl

run_again : (ts : List JavaType) (rest : List ℕ) → AllByRecursion Fits ts → type_at rest ≡ None → types_at (length (flat_map spelling ts ++ rest)) (flat_map spelling ts ++ rest) ≡ (ts, rest)
run_again [] rest h k = stops rest k
run_again (t ∷ ts) rest h k =
    let others = run_again ts rest h.1 k in
    let parts : flat_map spelling (t ∷ ts) ++ rest ≡ spelling t ++ (flat_map spelling ts ++ rest) = append_assoc (spelling t) (flat_map spelling ts) rest in
    ap (λ (l : List ℕ). types_at (length l) l) parts
    ∙ goes (spelling t ++ (flat_map spelling ts ++ rest)) t (flat_map spelling ts ++ rest) (type_again t (flat_map spelling ts ++ rest) h.0)
    ∙ ap (λ (r : List JavaType × List ℕ). (t ∷ r.0, r.1)) others

-- a closing parenthesis begins no type
closing : (rest : List ℕ) → type_at (41 ∷ rest) ≡ None
unfolding type_at type_length field_type_of element_type_of base_type
closing rest = rw (position_is is_no_bracket [] rest 41 refl refl) refl

-- ---- results

abbrev ResultTaken : List ℕ → Option JavaType → Type 0
ResultTaken bytes answer = (bytes ≡ result_spelling answer) × FitsResult answer

field_result : (bytes : List ℕ) (o : Option JavaType) (answer : Option JavaType) → field_type_of bytes ≡ o → option_map Some o ≡ Some answer → ResultTaken bytes answer
field_result bytes None answer e h = absurd cc
field_result bytes (Some t) answer e h =
    let same : Some t ≡ answer = cc in
    let P : Option JavaType → Type 0 = ResultTaken bytes in
    subst P same (field_takes bytes t e)

abbrev void : Option JavaType
void = None

result_takes : (bytes : List ℕ) (answer : Option JavaType) → result_of bytes ≡ Some answer → ResultTaken bytes answer
unfolding result_of
result_takes bytes answer h =
    elim (bytes_eq bytes (86 ∷ [])) as (λ b. bytes_eq bytes (86 ∷ []) ≡ b → cond b (Some void) (option_map Some (field_type_of bytes)) ≡ Some answer → ResultTaken bytes answer) [
      | true ↦ λ e k.
          let same : void ≡ answer = cc in
          let P : Option JavaType → Type 0 = ResultTaken bytes in
          subst P same ((bytes_eq-Decides bytes (86 ∷ [])).0 e, tt)
      | false ↦ λ e k. field_result bytes (field_type_of bytes) answer refl k
    ] refl h

-- V is no type
void_is_none : field_type_of (86 ∷ []) ≡ None
unfolding field_type_of element_type_of base_type
void_is_none = refl

not_void : (t : JavaType) → Fits t → bytes_eq (spelling t) (86 ∷ []) ≡ false
not_void t h =
    elim (bytes_eq (spelling t) (86 ∷ [])) as (λ b. bytes_eq (spelling t) (86 ∷ []) ≡ b → b ≡ false) [
      | true ↦ λ e. absurd (cc (sym (field_again t h) ∙ ap field_type_of ((bytes_eq-Decides (spelling t) (86 ∷ [])).0 e) ∙ void_is_none))
      | false ↦ λ e. refl
    ] refl

result_again : (answer : Option JavaType) → FitsResult answer → result_of (result_spelling answer) ≡ Some answer
unfolding result_of
result_again None h = refl
result_again (Some t) h = rw (not_void t h, field_again t h) refl

-- ---- the law

behind_takes : (b : ℕ) (bytes rest : List ℕ) → behind_byte b bytes ≡ Some rest → bytes ≡ b ∷ rest
behind_takes b [] rest h = absurd cc
behind_takes b (a ∷ bytes) rest h =
    elim (eqb a b) as (λ c. eqb a b ≡ c → cond c (Some bytes) None ≡ Some rest → a ∷ bytes ≡ b ∷ rest) [
      | true ↦ λ e k.
          let same : bytes ≡ rest = cc in
          ap₂ (λ (x : ℕ) (l : List ℕ). x ∷ l) (eqb-true a b e) same
      | false ↦ λ e k. absurd (cc k)
    ] refl h

abbrev FewTaken : List ℕ → List JavaType × List ℕ → Type 0
FewTaken bytes x = (bytes ≡ flat_map spelling x.0 ++ x.1) × AllByRecursion Fits x.0 × (slots_of x.0 ≤ 255)

few_takes : (bytes : List ℕ) (x : List JavaType × List ℕ) → few_types bytes ≡ Some x → FewTaken bytes x
unfolding few_types
few_takes bytes x h =
    elim (nat_le (slots_of (front_types bytes)) 255) as (λ b. nat_le (slots_of (front_types bytes)) 255 ≡ b → cond b (Some (types_at (length bytes) bytes)) None ≡ Some x → FewTaken bytes x) [
      | true ↦ λ e k.
          let same : types_at (length bytes) bytes ≡ x = cc in
          let taken = run_takes (length bytes) bytes in
          let P : List JavaType × List ℕ → Type 0 = FewTaken bytes in
          subst P same (taken.0, taken.1, leb-true (slots_of (front_types bytes)) 255 e)
      | false ↦ λ e k. absurd (cc k)
    ] refl h

few_again : (ts : List JavaType) (rest : List ℕ) → AllByRecursion Fits ts → slots_of ts ≤ 255 → type_at rest ≡ None → few_types (flat_map spelling ts ++ rest) ≡ Some (ts, rest)
unfolding few_types
few_again ts rest h l k =
    ap (λ (r : List JavaType × List ℕ). cond (nat_le (slots_of r.0) 255) (Some r) None) (run_again ts rest h k)
    ∙ ap (λ (b : Bool). cond b (Some (ts, rest)) None) (le-leb (slots_of ts) 255 l)

abbrev with_result : List JavaType → List ℕ → Option JavaMethod
with_result ts last = result_of last >>= λ answer. Some (record { parameters = ts; result = answer })

abbrev closed : List JavaType × List ℕ → Option JavaMethod
closed x = behind_byte 41 x.1 >>= λ last. with_result x.0 last

parts_of : (bytes inner : List ℕ) (ts : List JavaType) (behind last : List ℕ) (answer : Option JavaType) → bytes ≡ 40 ∷ inner → inner ≡ flat_map spelling ts ++ behind → behind ≡ 41 ∷ last → last ≡ result_spelling answer → bytes ≡ method_spelling (record { parameters = ts; result = answer })
parts_of bytes inner ts behind last answer a b c d =
    a ∙ ap (λ (l : List ℕ). 40 ∷ l) (b ∙ ap (λ (l : List ℕ). flat_map spelling ts ++ l) (c ∙ ap (λ (l : List ℕ). 41 ∷ l) d)
    ∙ sym (append_assoc (flat_map spelling ts) (41 ∷ []) (result_spelling answer)))

method_is : (m n : JavaMethod) → Some m ≡ Some n → m ≡ n
method_is m n h = cc

pub method_takes : (bytes : List ℕ) (m : JavaMethod) → method_type_of bytes ≡ Some m → (bytes ≡ method_spelling m) × FitsMethod m
unfolding method_type_of
method_takes bytes m h =
    let inner = bind_some (behind_byte 40 bytes) (λ inner. (few_types inner >>= λ types. closed types)) m h in
    let types = bind_some (few_types inner.0) (λ types. closed types) m inner.2 in
    let last = bind_some (behind_byte 41 types.0.1) (λ last. with_result types.0.0 last) m types.2 in
    let answer = bind_some (result_of last.0) (λ answer. Some (record { parameters = types.0.0; result = answer })) m last.2 in
    let run = few_takes inner.0 types.0 types.1 in
    let end = result_takes last.0 answer.0 answer.1 in
    let made : JavaMethod = record { parameters = types.0.0; result = answer.0 } in
    let same : made ≡ m = method_is made m answer.2 in
    let P : JavaMethod → Type 0 = λ n. (bytes ≡ method_spelling n) × FitsMethod n in
    subst P same (parts_of bytes inner.0 types.0.0 types.0.1 last.0 answer.0 (behind_takes 40 bytes inner.0 inner.1) run.0 (behind_takes 41 types.0.1 last.0 last.1) end.0, (run.1, run.2, end.1))

pub method_again : (m : JavaMethod) → FitsMethod m → method_type_of (method_spelling m) ≡ Some m
unfolding method_type_of
method_again m h =
    let parts : (flat_map spelling m.parameters ++ 41 ∷ []) ++ result_spelling m.result ≡ flat_map spelling m.parameters ++ 41 ∷ result_spelling m.result = append_assoc (flat_map spelling m.parameters) (41 ∷ []) (result_spelling m.result) in
    let run : few_types ((flat_map spelling m.parameters ++ 41 ∷ []) ++ result_spelling m.result) ≡ Some (m.parameters, 41 ∷ result_spelling m.result) =
    ap few_types parts ∙ few_again m.parameters (41 ∷ result_spelling m.result) h.0 h.1 (closing (result_spelling m.result)) in
    rw (run, result_again m.result h.2) refl
