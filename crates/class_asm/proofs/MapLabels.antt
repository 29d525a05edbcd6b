-- A map from names to places, as a list of labels.
use Rattle.std.proofs.Common.{◌≡◌, ◌∙◌, ℕ, suc, ◌+◌, Bool, true, false, cond, not, ◌||◌, nat_lt, List, [], ◌∷◌, ◌++◌, length, position, Option, Some, None, is_some, refl, sym, ap}
use Rattle.std.specs.Global.{Vec}
use Rattle.std.specs.List.{list_any, position_or_len}
use Rattle.std.specs.Map.{lookup, keys_of}
use Rattle.std.specs.Str.{bytes_eq}
use Rattle.std.proofs.lemmas.List.{map-append}
use Rattle.class_asm.specs.Labels.{Label, label_of, labels_in, is_named, place_of, with_label}

abbrev pub has_name : List ℕ → Vec ℕ → Bool
has_name name key = bytes_eq name key.items

pub place_in : (name : List ℕ) (es : List (Vec ℕ × ℕ)) → lookup (has_name name) es ≡ place_of (labels_in es) name
unfolding place_of
place_in name [] = refl
place_in name (e ∷ es) = ap (λ (later : Option ℕ). cond (bytes_eq name e.0.items) (Some e.1) later) (place_in name es)

found : (b : Bool) (n : ℕ) (later : Option ℕ) (any : Bool) → is_some later ≡ any → is_some (cond b (Some n) later) ≡ (b || any)
found true n later any e = refl
found false n later any e = e

pub any_in : (name : List ℕ) (es : List (Vec ℕ × ℕ)) → is_some (lookup (has_name name) es) ≡ list_any (is_named name) (labels_in es)
any_in name [] = refl
any_in name (e ∷ es) = found (bytes_eq name e.0.items) e.1 (lookup (has_name name) es) (list_any (is_named name) (labels_in es)) (any_in name es)

pub added : (name : List ℕ) (place : ℕ) (labels : List Label) (any : Bool) → list_any (is_named name) labels ≡ any → with_label labels name place ≡ cond any labels (labels ++ record { name = name; place = place } ∷ [])
unfolding with_label
added name place labels any e = ap (λ (b : Bool). cond b labels (labels ++ record { name = name; place = place } ∷ [])) e

pub behind_in : (es : List (Vec ℕ × ℕ)) (key : Vec ℕ) (place : ℕ) → labels_in (es ++ (key, place) ∷ []) ≡ labels_in es ++ record { name = key.items; place = place } ∷ []
behind_in es key place = map-append label_of es ((key, place) ∷ [])

counted : (b : Bool) (m n : ℕ) → m ≡ n → cond (not b) (1 + m) 0 ≡ cond (not b) (1 + n) 0
counted b m n e = ap (λ (k : ℕ). cond (not b) (1 + k) 0) e

first_in : (name : List ℕ) (es : List (Vec ℕ × ℕ)) → position_or_len (has_name name) (keys_of es) ≡ position_or_len (is_named name) (labels_in es)
first_in name [] = refl
first_in name (e ∷ es) = counted (bytes_eq name e.0.items) (position_or_len (has_name name) (keys_of es)) (position_or_len (is_named name) (labels_in es)) (first_in name es)

as_many : (es : List (Vec ℕ × ℕ)) → length (keys_of es) ≡ length (labels_in es)
as_many [] = refl
as_many (e ∷ es) = ap suc (as_many es)

pub position_in : (name : List ℕ) (es : List (Vec ℕ × ℕ)) → position (has_name name) (keys_of es) ≡ position (is_named name) (labels_in es)
position_in name es =
    ap (λ (n : ℕ). cond (nat_lt n (length (keys_of es))) (Some n) None) (first_in name es)
    ∙ ap (λ (n : ℕ). cond (nat_lt (position_or_len (is_named name) (labels_in es)) n) (Some (position_or_len (is_named name) (labels_in es))) None) (as_many es)

-- ---- what adding a label leaves

absent : {V : Type 0} (o : Option V) → is_some o ≡ false → o ≡ None
absent (Some x) e = absurd cc
absent None e = refl

-- A name that is there leaves the labels as they are.
pub there : (name : List ℕ) (place : ℕ) (es : List (Vec ℕ × ℕ)) (known : Bool) → known ≡ is_some (lookup (has_name name) es) → known ≡ true → with_label (labels_in es) name place ≡ labels_in es
there name place es known is e = added name place (labels_in es) true (sym (any_in name es) ∙ sym is ∙ e)

pub put : (name : List ℕ) (place : ℕ) (es : List (Vec ℕ × ℕ)) (key : Vec ℕ) (known : Bool) → key.items ≡ name → known ≡ is_some (lookup (has_name name) es) → known ≡ false
    → with_label (labels_in es) name place ≡ labels_in (es ++ (key, place) ∷ [])
put name place es key known is_key is e =
    added name place (labels_in es) false (sym (any_in name es) ∙ sym is ∙ e)
    ∙ ap (λ (n : List ℕ). labels_in es ++ record { name = n; place = place } ∷ []) (sym is_key)
    ∙ sym (behind_in es key place)

pub unknown : (name : List ℕ) (es : List (Vec ℕ × ℕ)) (key : Vec ℕ) (known : Bool) → key.items ≡ name → known ≡ is_some (lookup (has_name name) es) → known ≡ false → lookup (has_name key.items) es ≡ None
unknown name es key known is_key is e = ap (λ (n : List ℕ). lookup (has_name n) es) is_key ∙ absent (lookup (has_name name) es) (sym is ∙ e)
