-- Turning types in place, one after the other.
use Rattle.std.proofs.Common.{◌≡◌, ℕ, ◌≤◌, zero, suc, Bool, true, false, cond, slice_get, List, [], ◌∷◌, ◌++◌, length, refl, sym, ◌∙◌, ap, arith}
use Rattle.std.specs.Prelude.{Option, None, Some, Result, Ok, Err, OnOk, slice_set}
use Rattle.verify_rules.specs.declared.types.VType.{VType}
use Rattle.verify_rules.specs.declared.types.VType.TheVariants as types
use Rattle.verify_rules.specs.declared.types.Unfinished.{Unfinished}
use Rattle.verify_rules.specs.declared.types.Unfinished.TheVariants.{MadeAt, ThisObject}
use Rattle.verify_rules.specs.Types.{size, units, is_copy_of, turned, turned_all, top_first}
use Rattle.verify_rules.specs.Steps.{turned_at, turned_in}

-- with the first so many turned
pub turned_before : Unfinished → VType → ℕ → List VType → List VType
turned_before old new zero types = types
turned_before old new (suc n) [] = []
turned_before old new (suc n) (t ∷ types) = turned old new t ∷ turned_before old new n types

choice_in_front : (b : Bool) (x y : VType) (types : List VType) → cond b (x ∷ types) (y ∷ types) ≡ cond b x y ∷ types
choice_in_front true x y types = refl
choice_in_front false x y types = refl

set_behind : (b : Bool) (new t : VType) (types : List VType) (at : ℕ) → cond b (slice_set (t ∷ types) (suc at) new) (t ∷ types) ≡ t ∷ cond b (slice_set types at new) types
set_behind true new t types at = refl
set_behind false new t types at = refl

turned_behind : (old : Unfinished) (new t : VType) (types : List VType) (at : ℕ) (found : Option VType) → turned_in old new (t ∷ types) (suc at) found ≡ t ∷ turned_in old new types at found
turned_behind old new t types at None = refl
turned_behind old new t types at (Some u) = set_behind (is_copy_of old u) new t types at

-- one more is turned
pub turned_more : (old : Unfinished) (new : VType) (n : ℕ) (types : List VType) → turned_at old new (turned_before old new n types) n ≡ turned_before old new (suc n) types
unfolding turned_before
turned_more old new zero [] = refl
turned_more old new zero (t ∷ types) = choice_in_front (is_copy_of old t) new t types
turned_more old new (suc n) [] = refl
turned_more old new (suc n) (t ∷ types) =
    turned_behind old new (turned old new t) (turned_before old new n types) n (slice_get (turned_before old new n types) n)
    ∙ ap (λ (ts : List VType). turned old new t ∷ ts) (turned_more old new n types)

pub none_turned : (old : Unfinished) (new : VType) (types : List VType) → turned_before old new 0 types ≡ types
unfolding turned_before
none_turned old new types = refl

pub all_turned : (old : Unfinished) (new : VType) (n : ℕ) (types : List VType) → length types ≤ n → turned_before old new n types ≡ turned_all old new types
unfolding turned_before turned_all
all_turned old new zero [] h = refl
all_turned old new zero (t ∷ types) h = absurd (omega arith)
all_turned old new (suc n) [] h = refl
all_turned old new (suc n) (t ∷ types) h = ap (λ (ts : List VType). turned old new t ∷ ts) (all_turned old new n types (omega arith))

-- ---- units

copy_size : (old : Unfinished) (t : VType) → is_copy_of old t ≡ true → size t ≡ 1
copy_size (MadeAt place) types.Top h = refl
copy_size (MadeAt place) types.Integer h = refl
copy_size (MadeAt place) types.Float h = refl
copy_size (MadeAt place) types.Double h = absurd cc
copy_size (MadeAt place) types.Long h = absurd cc
copy_size (MadeAt place) types.Null h = refl
copy_size (MadeAt place) types.UninitializedThis h = refl
copy_size (MadeAt place) (types.Object name) h = refl
copy_size (MadeAt place) (types.Uninitialized p) h = refl
copy_size ThisObject types.Top h = refl
copy_size ThisObject types.Integer h = refl
copy_size ThisObject types.Float h = refl
copy_size ThisObject types.Double h = absurd cc
copy_size ThisObject types.Long h = absurd cc
copy_size ThisObject types.Null h = refl
copy_size ThisObject types.UninitializedThis h = refl
copy_size ThisObject (types.Object name) h = refl
copy_size ThisObject (types.Uninitialized p) h = refl

same_size : (b : Bool) (new t : VType) → size new ≡ 1 → (b ≡ true → size t ≡ 1) → size (cond b new t) ≡ size t
same_size true new t h k = h ∙ sym (k refl)
same_size false new t h k = refl

pub units_turned : (old : Unfinished) (new : VType) (n : ℕ) (types : List VType) → size new ≡ 1 → units (turned_before old new n types) ≡ units types
unfolding turned_before units
units_turned old new zero types h = refl
units_turned old new (suc n) [] h = refl
units_turned old new (suc n) (t ∷ types) h =
    let one = same_size (is_copy_of old t) new t h (copy_size old t) in
    let others = units_turned old new n types h in
    omega arith

pub length_turned : (old : Unfinished) (new : VType) (n : ℕ) (types : List VType) → length (turned_before old new n types) ≡ length types
unfolding turned_before
length_turned old new zero types = refl
length_turned old new (suc n) [] = refl
length_turned old new (suc n) (t ∷ types) = ap suc (length_turned old new n types)

-- ---- on a stack

turned-append : (old : Unfinished) (new : VType) (xs : List VType) (t : VType) → turned_all old new (xs ++ t ∷ []) ≡ turned_all old new xs ++ turned old new t ∷ []
unfolding turned_all
turned-append old new [] t = refl
turned-append old new (x ∷ xs) t = ap (λ (ts : List VType). turned old new x ∷ ts) (turned-append old new xs t)

pub turned-top_first : (old : Unfinished) (new : VType) (xs : List VType) → turned_all old new (top_first xs) ≡ top_first (turned_all old new xs)
unfolding turned_all
turned-top_first old new [] = refl
turned-top_first old new (x ∷ xs) = turned-append old new (top_first xs) x ∙ ap (λ (ts : List VType). ts ++ turned old new x ∷ []) (turned-top_first old new xs)

pub turned_seen : {A E : Type 0} (old : Unfinished) (new : VType) (items after shown : List VType) (r : Result A E) → top_first items ≡ shown → OnOk r (after ≡ turned_all old new items) → OnOk r (top_first after ≡ turned_all old new shown)
turned_seen old new items after shown (Err e) s h = tt
turned_seen old new items after shown (Ok x) s h = ap top_first h ∙ sym (turned-top_first old new items) ∙ ap (turned_all old new) s
