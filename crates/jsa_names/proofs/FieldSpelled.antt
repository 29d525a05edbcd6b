-- Types of fields are read exactly where they are spelled.
use Rattle.std.proofs.Common.{◌≡◌, ℕ, zero, suc, ◌+◌, ◌<◌, ◌≤◌, Bool, true, false, cond, not, ◌&&◌, eqb, Option, Some, None, List, [], ◌∷◌, ◌++◌, length, get_or, take, drop, position, replicate, refl, inl, inr, ap, ap₂, sym, subst, ◌∙◌, arith, nat_le, append-nil, drop-cons}
use Rattle.std.specs.List.{list_all, slice_split, onto_first, prefix_len, position_or_len}
use Rattle.std.proofs.lemmas.Bool.{le-leb, lt-ltb, leb-true, eqb-true, eqb-false, eq-eqb}
use Rattle.std.proofs.lemmas.Bool.Decides.{eqb_tells}
use Rattle.std.proofs.lemmas.List.{drop_all, take-append-drop, length-append}
use Rattle.std.proofs.lemmas.List.Quantifiers.{position-Some}
use Rattle.std.proofs.Math.Seq.{take-append_seam}
use Rattle.std.proofs.Math.ListN.{length-replicate}
use Rattle.std.proofs.lemmas.List.{drop_at}
use Rattle.jsa_names.specs.Binding.{◌>>=◌}
use Rattle.jsa_names.proofs.Bound.{bind_some}
use Rattle.jsa_names.specs.Names.{is_plain, is_segment, is_class_name}
use Rattle.jsa_names.specs.Types.{JavaType, Byte, Char, Double, Float, Int, Long, Short, Boolean, Class, Array, base_type, is_semicolon, class_type_of, element_type_of, is_no_bracket, field_type_of, spelling, FitsElement, Fits}

pub both : (a b : Bool) → (a && b) ≡ true → (a ≡ true) × (b ≡ true)
both true b h = (refl, h)
both false b h = absurd cc

and_is : (a b : Bool) → a ≡ true → b ≡ true → (a && b) ≡ true
and_is a b h k = rw (h, k) refl

not_false : (b : Bool) → not b ≡ false → b ≡ true
not_false true h = refl
not_false false h = absurd cc

pub differ : (a b : ℕ) → (a ≡ b → ⊥) → eqb a b ≡ false
differ a b h = elim (eqb_tells a b) [ inl p ↦ absurd (h p.1) | inr p ↦ p.0 ]

-- ---- places

prefix_is : (q : ℕ → Bool) (front rest : List ℕ) (b : ℕ) → list_all q front ≡ true → q b ≡ false → prefix_len q (front ++ b ∷ rest) ≡ length front
prefix_is q [] rest b h k = rw k refl
prefix_is q (x ∷ xs) rest b h k =
    let p = both (q x) (list_all q xs) h in
    let more : 1 + prefix_len q (xs ++ b ∷ rest) ≡ length (x ∷ xs) = omega (arith, prefix_is q xs rest b p.1 k) in
    rw p.0 more

-- the first that passes, behind a front that doesn't
pub position_is : (p : ℕ → Bool) (front rest : List ℕ) (b : ℕ) → list_all (λ x. not (p x)) front ≡ true → p b ≡ true → position p (front ++ b ∷ rest) ≡ Some (length front)
position_is p front rest b h k =
    let e : position_or_len p (front ++ b ∷ rest) ≡ length front = prefix_is (λ x. not (p x)) front rest b h (ap not k) in
    let within : length front < length (front ++ b ∷ rest) = omega (arith, length-append front (b ∷ rest)) in
    rw (e, lt-ltb (length front) (length (front ++ b ∷ rest)) within) refl

pub all_brackets : (n : ℕ) → list_all (λ x. not (is_no_bracket x)) (replicate n 91) ≡ true
all_brackets zero = refl
all_brackets (suc n) = all_brackets n

all_same : (n : ℕ) (xs : List ℕ) (b : ℕ) → n ≤ length xs → ((k : ℕ) → k < n → get_or xs k 0 ≡ b) → xs ≡ replicate n b ++ drop n xs
all_same zero xs b h f = refl
all_same (suc n) [] b h f = absurd (omega arith)
all_same (suc n) (x ∷ xs) b h f =
    let first : x ≡ b = f 0 (omega arith) in
    let others : xs ≡ replicate n b ++ drop n xs = all_same n xs b (omega arith) (λ k lt. f (suc k) (omega arith)) in
    ap (λ (y : ℕ). y ∷ xs) first ∙ ap (λ (l : List ℕ). b ∷ l) others

-- the brackets before the first other byte
brackets_first : (bytes : List ℕ) (depth : ℕ) → position is_no_bracket bytes ≡ Some depth → bytes ≡ replicate depth 91 ++ drop depth bytes
brackets_first bytes depth h =
    let p = position-Some is_no_bracket bytes depth 0 h in
    all_same depth bytes 91 (omega (arith, p.0)) (λ k lt. eqb-true (get_or bytes k 0) 91 (not_false (eqb (get_or bytes k 0) 91) (p.2 k lt)))

-- ---- names

segments_plain : (parts : List (List ℕ)) → list_all is_segment parts ≡ true → list_all (list_all is_plain) parts ≡ true
segments_plain [] h = refl
segments_plain (part ∷ parts) h =
    let p = both (is_segment part) (list_all is_segment parts) h in
    and_is (list_all is_plain part) (list_all (list_all is_plain) parts) (both (not (eqb (length part) 0)) (list_all is_plain part) p.0).1 (segments_plain parts p.1)

first_plain : (x : ℕ) (parts : List (List ℕ)) → list_all (list_all is_plain) (onto_first x parts) ≡ true → (is_plain x ≡ true) × (list_all (list_all is_plain) parts ≡ true)
first_plain x [] h = ((both (is_plain x) true (both (is_plain x && true) true h).0).0, refl)
first_plain x (part ∷ parts) h =
    let p = both (is_plain x && list_all is_plain part) (list_all (list_all is_plain) parts) h in
    let q = both (is_plain x) (list_all is_plain part) p.0 in
    (q.0, and_is (list_all is_plain part) (list_all (list_all is_plain) parts) q.1 p.1)

no_semicolons_in : (name : List ℕ) → list_all (list_all is_plain) (slice_split (λ b. eqb b 47) name) ≡ true → list_all (λ x. not (is_semicolon x)) name ≡ true
no_semicolons_in [] h = refl
no_semicolons_in (x ∷ xs) h =
    elim (eqb x 47) as (λ b. eqb x 47 ≡ b → list_all (list_all is_plain) (cond b ([] ∷ slice_split (λ c. eqb c 47) xs) (onto_first x (slice_split (λ c. eqb c 47) xs))) ≡ true → list_all (λ y. not (is_semicolon y)) (x ∷ xs) ≡ true) [
      | true ↦ λ e k.
          let slash : x ≡ 47 = eqb-true x 47 e in
          let plain : not (eqb x 59) ≡ true = ap not (differ x 59 (λ s. omega arith)) in
          and_is (not (eqb x 59)) (list_all (λ y. not (is_semicolon y)) xs) plain (no_semicolons_in xs k)
      | false ↦ λ e k.
          let p = first_plain x (slice_split (λ c. eqb c 47) xs) k in
          let q = both (not (eqb x 46) && not (eqb x 59)) (not (eqb x 91)) p.0 in
          and_is (not (eqb x 59)) (list_all (λ y. not (is_semicolon y)) xs) (both (not (eqb x 46)) (not (eqb x 59)) q.0).1 (no_semicolons_in xs p.1)
    ] refl h

pub no_semicolons : (name : List ℕ) → is_class_name name ≡ true → list_all (λ x. not (is_semicolon x)) name ≡ true
unfolding is_class_name
no_semicolons name h = no_semicolons_in name (segments_plain (slice_split (λ b. eqb b 47) name) h)

-- ---- a type is read as it is spelled

class_again : (name : List ℕ) → is_class_name name ≡ true → class_type_of (name ++ 59 ∷ []) ≡ Some (Class name)
unfolding class_type_of
class_again name h =
    let long : eqb (length name + 1) (length (name ++ 59 ∷ [])) ≡ true = eq-eqb (length name + 1) (length (name ++ 59 ∷ [])) (omega (arith, length-append name (59 ∷ []))) in
    rw (position_is is_semicolon name [] 59 (no_semicolons name h) refl, take-append_seam name (59 ∷ []), long, h) refl

pub element_again : (t : JavaType) → FitsElement t → element_type_of (spelling t) ≡ Some t
unfolding element_type_of base_type
element_again Byte h = refl
element_again Char h = refl
element_again Double h = refl
element_again Float h = refl
element_again Int h = refl
element_again Long h = refl
element_again Short h = refl
element_again Boolean h = refl
element_again (Class name) h = class_again name h
element_again (Array depth element) h = absurd h

-- no element begins with a bracket
pub front_of : (t : JavaType) → FitsElement t → (b : ℕ) × (rest : List ℕ) × (spelling t ≡ b ∷ rest) × (is_no_bracket b ≡ true)
front_of Byte h = (66, [], refl, refl)
front_of Char h = (67, [], refl, refl)
front_of Double h = (68, [], refl, refl)
front_of Float h = (70, [], refl, refl)
front_of Int h = (73, [], refl, refl)
front_of Long h = (74, [], refl, refl)
front_of Short h = (83, [], refl, refl)
front_of Boolean h = (90, [], refl, refl)
front_of (Class name) h = (76, name ++ 59 ∷ [], refl, refl)
front_of (Array depth element) h = absurd h

-- how many brackets stand before an element, whatever follows it
pub depth_is : (depth : ℕ) (t : JavaType) (rest : List ℕ) → FitsElement t → position is_no_bracket (replicate depth 91 ++ (spelling t ++ rest)) ≡ Some depth
depth_is depth t rest h =
    let f = front_of t h in
    let parts : replicate depth 91 ++ (spelling t ++ rest) ≡ replicate depth 91 ++ f.0 ∷ (f.1 ++ rest) = ap (λ (l : List ℕ). replicate depth 91 ++ (l ++ rest)) f.2 in
    let here : position is_no_bracket (replicate depth 91 ++ f.0 ∷ (f.1 ++ rest)) ≡ Some (length (replicate depth 91)) = position_is is_no_bracket (replicate depth 91) (f.1 ++ rest) f.0 (all_brackets depth) f.3 in
    ap (position is_no_bracket) parts ∙ here ∙ ap (λ (n : ℕ). Some n) (length-replicate depth 91)

abbrev made_of : ℕ → JavaType → List ℕ → Option JavaType
made_of depth t element = cond (eqb depth 0) (Some t) (cond (nat_le depth 255) (Some (Array depth element)) None)

behind_brackets : (depth : ℕ) (t : JavaType) → FitsElement t → field_type_of (replicate depth 91 ++ spelling t) ≡ made_of depth t (spelling t)
unfolding field_type_of
behind_brackets depth t h =
    let whole : replicate depth 91 ++ (spelling t ++ []) ≡ replicate depth 91 ++ spelling t = ap (λ (l : List ℕ). replicate depth 91 ++ l) (append-nil (spelling t)) in
    let place : position is_no_bracket (replicate depth 91 ++ spelling t) ≡ Some depth = ap (position is_no_bracket) (sym whole) ∙ depth_is depth t [] h in
    rw (place, drop_at (replicate depth 91) (spelling t) depth (length-replicate depth 91), element_again t h) refl

pub field_again : (t : JavaType) → Fits t → field_type_of (spelling t) ≡ Some t
field_again Byte h = behind_brackets 0 Byte tt
field_again Char h = behind_brackets 0 Char tt
field_again Double h = behind_brackets 0 Double tt
field_again Float h = behind_brackets 0 Float tt
field_again Int h = behind_brackets 0 Int tt
field_again Long h = behind_brackets 0 Long tt
field_again Short h = behind_brackets 0 Short tt
field_again Boolean h = behind_brackets 0 Boolean tt
field_again (Class name) h = behind_brackets 0 (Class name) h
field_again (Array depth element) h =
    let e = h.2.1 in
    let some : made_of depth h.2.0 (spelling h.2.0) ≡ Some (Array depth (spelling h.2.0)) = rw (differ depth 0 (λ z. omega arith), le-leb depth 255 h.1) refl in
    ap (λ (l : List ℕ). field_type_of (replicate depth 91 ++ l)) e ∙ behind_brackets depth h.2.0 h.2.2 ∙ some ∙ ap (λ (l : List ℕ). Some (Array depth l)) (sym e)

-- ---- what is read as a type is spelled so

abbrev Element : List ℕ → JavaType → Type 0
Element bytes t = (bytes ≡ spelling t) × FitsElement t

base_step : (b n : ℕ) (t s : JavaType) (o : Option JavaType) → Element (n ∷ []) t → (o ≡ Some s → Element (b ∷ []) s) → cond (eqb b n) (Some t) o ≡ Some s → Element (b ∷ []) s
base_step b n t s o here others h =
    elim (eqb b n) as (λ c. eqb b n ≡ c → cond c (Some t) o ≡ Some s → Element (b ∷ []) s) [
      | true ↦ λ e k.
          let same : t ≡ s = cc in
          let byte : b ≡ n = eqb-true b n e in
          let P : JavaType → Type 0 = Element (b ∷ []) in
          subst P same (ap (λ (x : ℕ). x ∷ []) byte ∙ here.0, here.1)
      | false ↦ λ e k. others k
    ] refl h

nothing_read : (b : ℕ) (s : JavaType) → None ≡ Some s → Element (b ∷ []) s
nothing_read b s h = absurd cc

base_takes : (b : ℕ) (s : JavaType) → base_type b ≡ Some s → Element (b ∷ []) s
unfolding base_type
base_takes b s h =
    base_step b 66 Byte s _ (refl, tt) (base_step b 67 Char s _ (refl, tt) (base_step b 68 Double s _ (refl, tt) (base_step b 70 Float s _ (refl, tt)
    (base_step b 73 Int s _ (refl, tt) (base_step b 74 Long s _ (refl, tt) (base_step b 83 Short s _ (refl, tt) (base_step b 90 Boolean s _ (refl, tt) (nothing_read b s)))))))) h

if_some : (b : Bool) (x y : JavaType) → cond b (Some x) None ≡ Some y → (b ≡ true) × (x ≡ y)
if_some true x y h = (refl, cc)
if_some false x y h = absurd cc

class_takes : (text : List ℕ) (t : JavaType) → class_type_of text ≡ Some t → Element (76 ∷ text) t
unfolding class_type_of
class_takes text t h =
    let found = bind_some (position is_semicolon text) (λ n. cond (eqb (n + 1) (length text) && is_class_name (take n text)) (Some (Class (take n text))) None) t h in
    let place = position-Some is_semicolon text found.0 0 found.1 in
    let right = if_some (eqb (found.0 + 1) (length text) && is_class_name (take found.0 text)) (Class (take found.0 text)) t found.2 in
    let tests = both (eqb (found.0 + 1) (length text)) (is_class_name (take found.0 text)) right.0 in
    let long : found.0 + 1 ≡ length text = eqb-true (found.0 + 1) (length text) tests.0 in
    let mark : get_or text found.0 0 ≡ 59 = eqb-true (get_or text found.0 0) 59 place.1 in
    let last : drop found.0 text ≡ 59 ∷ [] = drop-cons text found.0 0 place.0 ∙ ap₂ (λ (x : ℕ) (l : List ℕ). x ∷ l) mark (drop_all (suc found.0) text (omega arith)) in
    let whole : text ≡ take found.0 text ++ 59 ∷ [] = sym (take-append-drop found.0 text) ∙ ap (λ (l : List ℕ). take found.0 text ++ l) last in
    let P : JavaType → Type 0 = Element (76 ∷ text) in
    subst P right.1 (ap (λ (l : List ℕ). 76 ∷ l) whole, tests.1)

alone : (b : ℕ) (rest : List ℕ) (t : JavaType) → cond (eqb (length rest) 0) (base_type b) None ≡ Some t → Element (b ∷ rest) t
alone b [] t h = base_takes b t h
alone b (c ∷ rest) t h =
    let none : cond (eqb (length (c ∷ rest)) 0) (base_type b) None ≡ None = rw (differ (length (c ∷ rest)) 0 (λ e. omega arith)) refl in
    absurd (cc (none, h))

element_takes : (bytes : List ℕ) (t : JavaType) → element_type_of bytes ≡ Some t → Element bytes t
unfolding element_type_of
element_takes [] t h = absurd cc
element_takes (b ∷ rest) t h =
    elim (eqb b 76) as (λ c. eqb b 76 ≡ c → cond c (class_type_of rest) (cond (eqb (length rest) 0) (base_type b) None) ≡ Some t → Element (b ∷ rest) t) [
      | true ↦ λ e k.
          let p = class_takes rest t k in
          (ap (λ (x : ℕ). x ∷ rest) (eqb-true b 76 e) ∙ p.0, p.1)
      | false ↦ λ e k. alone b rest t k
    ] refl h

positive : (n : ℕ) → (n ≡ 0 → ⊥) → 1 ≤ n
positive zero h = absurd (h refl)
positive (suc n) h = omega arith

lifted : (t : JavaType) → FitsElement t → Fits t
lifted Byte h = tt
lifted Char h = tt
lifted Double h = tt
lifted Float h = tt
lifted Int h = tt
lifted Long h = tt
lifted Short h = tt
lifted Boolean h = tt
lifted (Class name) h = h
lifted (Array depth element) h = absurd h

made_takes : (bytes : List ℕ) (depth : ℕ) (e t : JavaType) → bytes ≡ replicate depth 91 ++ drop depth bytes → Element (drop depth bytes) e → made_of depth e (drop depth bytes) ≡ Some t → (bytes ≡ spelling t) × Fits t
made_takes bytes depth e t parts inside h =
    elim (eqb depth 0) as (λ c. eqb depth 0 ≡ c → cond c (Some e) (cond (nat_le depth 255) (Some (Array depth (drop depth bytes))) None) ≡ Some t → (bytes ≡ spelling t) × Fits t) [
      | true ↦ λ z k.
          let none : depth ≡ 0 = eqb-true depth 0 z in
          let same : e ≡ t = cc in
          let P : JavaType → Type 0 = λ x. (bytes ≡ spelling x) × Fits x in
          subst P same (parts ∙ ap (λ (n : ℕ). replicate n 91 ++ drop depth bytes) none ∙ inside.0, lifted e inside.1)
      | false ↦ λ z k.
          let r = if_some (nat_le depth 255) (Array depth (drop depth bytes)) t k in
          let few : depth ≤ 255 = leb-true depth 255 r.0 in
          let some : 1 ≤ depth = positive depth (eqb-false depth 0 z) in
          let P : JavaType → Type 0 = λ x. (bytes ≡ spelling x) × Fits x in
          subst P r.1 (parts, (some, few, (e, inside.0, inside.1)))
    ] refl h

pub field_takes : (bytes : List ℕ) (t : JavaType) → field_type_of bytes ≡ Some t → (bytes ≡ spelling t) × Fits t
unfolding field_type_of
field_takes bytes t h =
    let place = bind_some (position is_no_bracket bytes) (λ depth. (element_type_of (drop depth bytes) >>= λ e. made_of depth e (drop depth bytes))) t h in
    let inside = bind_some (element_type_of (drop place.0 bytes)) (λ e. made_of place.0 e (drop place.0 bytes)) t place.2 in
    made_takes bytes place.0 inside.0 t (brackets_first bytes place.0 place.1) (element_takes (drop place.0 bytes) inside.0 inside.1) inside.2
