-- The distances of a switch by their places and by a key.
use Rattle.std.proofs.Common.{◌≡◌, ℕ, ℤ, zero, suc, Bool, true, false, ◌-◌, ◌*◌, ◌/◌, ◌<◌, ◌≤◌, w32, of_z, List, [], ◌∷◌, length, take, drop, Option, Some, None, refl, sym, ap, ◌∙◌, arith}
use Rattle.std.specs.Prelude.{slice_get}
use Rattle.std.specs.Ordering.{int_eq}
use Rattle.std.specs.Option.{option_map}
use Rattle.std.proofs.lemmas.Bool.Decides.{Decides-int_eq}
use Rattle.std.proofs.lemmas.List.{length-drop, take_rest}
use Rattle.jsa_base.proofs.Codecs.{some_is}
use Rattle.jsa_ops.specs.Spelling.{word, distances, pairs}
use Rattle.jsa_ops.specs.Switches.{first_distance, first_pair, pair_distances, pair_distance}

-- ---- a tableswitch

no_distance : (bytes : List ℕ) → length bytes < 4 → first_distance bytes ≡ None
no_distance [] few = refl
no_distance (a ∷ []) few = refl
no_distance (a ∷ b ∷ []) few = refl
no_distance (a ∷ b ∷ c ∷ []) few = refl
no_distance (a ∷ b ∷ c ∷ d ∷ more) few = absurd (omega (arith, few))

abbrev pub distance_in : Option (ℤ × List ℕ) → Option ℤ
distance_in o = option_map (λ p. p.0) o

few_left : (bytes : List ℕ) (n k : ℕ) → length bytes < n → length (drop k bytes) < n
few_left bytes n k few = omega (arith, few, length-drop k bytes)

distance_is : (bytes : List ℕ) (k : ℕ) → slice_get (distances bytes) k ≡ distance_in (first_distance (drop (4 * k) bytes))
distance_is [] k = ap distance_in (sym (no_distance (drop (4 * k) []) (few_left [] 4 (4 * k) (omega arith))))
distance_is (a ∷ []) k = ap distance_in (sym (no_distance (drop (4 * k) (a ∷ [])) (few_left (a ∷ []) 4 (4 * k) (omega arith))))
distance_is (a ∷ b ∷ []) k = ap distance_in (sym (no_distance (drop (4 * k) (a ∷ b ∷ [])) (few_left (a ∷ b ∷ []) 4 (4 * k) (omega arith))))
distance_is (a ∷ b ∷ c ∷ []) k = ap distance_in (sym (no_distance (drop (4 * k) (a ∷ b ∷ c ∷ [])) (few_left (a ∷ b ∷ c ∷ []) 4 (4 * k) (omega arith))))
distance_is (a ∷ b ∷ c ∷ d ∷ more) zero = refl
distance_is (a ∷ b ∷ c ∷ d ∷ more) (suc k) =
    let four : 4 * suc k ≡ suc (suc (suc (suc (4 * k)))) = omega arith in
    distance_is more k ∙ sym (ap (λ (n : ℕ). distance_in (first_distance (drop n (a ∷ b ∷ c ∷ d ∷ more)))) four)

-- the same for what is left of the bytes as a slice has it
pub distance_there : (bytes : List ℕ) (k : ℕ) → distance_in (first_distance (take (length bytes - 4 * k) (drop (4 * k) bytes))) ≡ slice_get (distances bytes) k
distance_there bytes k = ap (λ (rest : List ℕ). distance_in (first_distance rest)) (take_rest bytes (4 * k)) ∙ sym (distance_is bytes k)

pub no_more_distances : (bytes : List ℕ) (k : ℕ) → length bytes / 4 ≤ k → slice_get (distances bytes) k ≡ None
no_more_distances bytes k past = distance_is bytes k ∙ ap distance_in (no_distance (drop (4 * k) bytes) (omega (arith, past, length-drop (4 * k) bytes)))

pub length-distances : (bytes : List ℕ) → length (distances bytes) ≡ length bytes / 4
length-distances [] = refl
length-distances (a ∷ []) = refl
length-distances (a ∷ b ∷ []) = refl
length-distances (a ∷ b ∷ c ∷ []) = refl
length-distances (a ∷ b ∷ c ∷ d ∷ more) = omega (arith, length-distances more)

-- ---- a lookupswitch

no_pair : (bytes : List ℕ) → length bytes < 8 → first_pair bytes ≡ None
no_pair [] few = refl
no_pair (a ∷ []) few = refl
no_pair (a ∷ b ∷ []) few = refl
no_pair (a ∷ b ∷ c ∷ []) few = refl
no_pair (a ∷ b ∷ c ∷ d ∷ []) few = refl
no_pair (a ∷ b ∷ c ∷ d ∷ e ∷ []) few = refl
no_pair (a ∷ b ∷ c ∷ d ∷ e ∷ f ∷ []) few = refl
no_pair (a ∷ b ∷ c ∷ d ∷ e ∷ f ∷ g ∷ []) few = refl
no_pair (a ∷ b ∷ c ∷ d ∷ e ∷ f ∷ g ∷ h ∷ more) few = absurd (omega (arith, few))

abbrev pub distance_of_pair : Option ((ℤ × ℤ) × List ℕ) → Option ℤ
distance_of_pair o = option_map (λ p. p.0.1) o

none_there : (bytes : List ℕ) (k : ℕ) → length bytes < 8 → distance_of_pair (first_pair (drop k bytes)) ≡ None
none_there bytes k few = ap distance_of_pair (no_pair (drop k bytes) (few_left bytes 8 k few))

pair_is : (bytes : List ℕ) (k : ℕ) → slice_get (pair_distances bytes) k ≡ distance_of_pair (first_pair (drop (8 * k) bytes))
pair_is [] k = sym (none_there [] (8 * k) (omega arith))
pair_is (a ∷ []) k = sym (none_there (a ∷ []) (8 * k) (omega arith))
pair_is (a ∷ b ∷ []) k = sym (none_there (a ∷ b ∷ []) (8 * k) (omega arith))
pair_is (a ∷ b ∷ c ∷ []) k = sym (none_there (a ∷ b ∷ c ∷ []) (8 * k) (omega arith))
pair_is (a ∷ b ∷ c ∷ d ∷ []) k = sym (none_there (a ∷ b ∷ c ∷ d ∷ []) (8 * k) (omega arith))
pair_is (a ∷ b ∷ c ∷ d ∷ e ∷ []) k = sym (none_there (a ∷ b ∷ c ∷ d ∷ e ∷ []) (8 * k) (omega arith))
pair_is (a ∷ b ∷ c ∷ d ∷ e ∷ f ∷ []) k = sym (none_there (a ∷ b ∷ c ∷ d ∷ e ∷ f ∷ []) (8 * k) (omega arith))
pair_is (a ∷ b ∷ c ∷ d ∷ e ∷ f ∷ g ∷ []) k = sym (none_there (a ∷ b ∷ c ∷ d ∷ e ∷ f ∷ g ∷ []) (8 * k) (omega arith))
pair_is (a ∷ b ∷ c ∷ d ∷ e ∷ f ∷ g ∷ h ∷ more) zero = refl
pair_is (a ∷ b ∷ c ∷ d ∷ e ∷ f ∷ g ∷ h ∷ more) (suc k) =
    let eight : 8 * suc k ≡ suc (suc (suc (suc (suc (suc (suc (suc (8 * k)))))))) = omega arith in
    pair_is more k ∙ sym (ap (λ (n : ℕ). distance_of_pair (first_pair (drop n (a ∷ b ∷ c ∷ d ∷ e ∷ f ∷ g ∷ h ∷ more)))) eight)

pub pair_there : (bytes : List ℕ) (k : ℕ) → distance_of_pair (first_pair (take (length bytes - 8 * k) (drop (8 * k) bytes))) ≡ slice_get (pair_distances bytes) k
pair_there bytes k = ap (λ (rest : List ℕ). distance_of_pair (first_pair rest)) (take_rest bytes (8 * k)) ∙ sym (pair_is bytes k)

pub no_more_pairs : (bytes : List ℕ) (k : ℕ) → length bytes / 8 ≤ k → slice_get (pair_distances bytes) k ≡ None
no_more_pairs bytes k past = pair_is bytes k ∙ ap distance_of_pair (no_pair (drop (8 * k) bytes) (omega (arith, past, length-drop (8 * k) bytes)))

-- ---- one pair after the other

not_equal : (x y : ℤ) → (x ≡ y → ⊥) → int_eq x y ≡ false
not_equal x y apart = by (int_eq x y) (Decides-int_eq x y).0 where
  by : (b : Bool) → (b ≡ true → x ≡ y) → b ≡ false
  by true same = absurd (apart (same refl))
  by false same = refl

passed : (other key k d : ℤ) (rest more : List ℕ) → Some ((k, d), more) ≡ first_pair rest → int_eq k key ≡ false → pair_distance other (pairs more) key ≡ pair_distance other (pairs rest) key
passed other key k d [] more e apart = absurd cc
passed other key k d (a ∷ []) more e apart = absurd cc
passed other key k d (a ∷ b ∷ []) more e apart = absurd cc
passed other key k d (a ∷ b ∷ c ∷ []) more e apart = absurd cc
passed other key k d (a ∷ b ∷ c ∷ f ∷ []) more e apart = absurd cc
passed other key k d (a ∷ b ∷ c ∷ f ∷ g ∷ []) more e apart = absurd cc
passed other key k d (a ∷ b ∷ c ∷ f ∷ g ∷ h ∷ []) more e apart = absurd cc
passed other key k d (a ∷ b ∷ c ∷ f ∷ g ∷ h ∷ i ∷ []) more e apart = absurd cc
passed other key k d (a ∷ b ∷ c ∷ f ∷ g ∷ h ∷ i ∷ j ∷ rest) more e apart =
    let p = some_is ((k, d), more) ((word a b c f, word g h i j), rest) e in
    let m : more ≡ rest = ap (λ (x : (ℤ × ℤ) × List ℕ). x.1) p in
    let n : int_eq (word a b c f) key ≡ false = ap (λ (x : (ℤ × ℤ) × List ℕ). int_eq x.0.0 key) (sym p) ∙ apart in
    rw n (ap (λ (l : List ℕ). pair_distance other (pairs l) key) m)

-- the same for numbers that differ in their types
pub passed_by : (other key k d : ℤ) (rest more : List ℕ) → Some ((k, d), more) ≡ first_pair rest → (of_z w32 k ≡ of_z w32 key → ⊥) → pair_distance other (pairs more) key ≡ pair_distance other (pairs rest) key
passed_by other key k d rest more e apart = passed other key k d rest more e (not_equal k key (λ same. apart (ap (of_z w32) same)))
