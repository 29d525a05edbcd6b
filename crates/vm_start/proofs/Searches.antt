-- A list is looked through from place to place.
use Rattle.std.proofs.Common.{◌≡◌, ℕ, zero, suc, ◌+◌, ◌<◌, ◌≤◌, add-one, List, [], ◌∷◌, length, map, get_or, drop, drop-cons, Bool, true, false, ◌||◌, Some, None, slice_get, refl, subst, ◌∙◌, ap, arith}
use Rattle.std.specs.List.{list_any}
use Rattle.std.proofs.lemmas.List.{drop_all}
use Rattle.std.specs.Prelude.{◌&&◌, is_none}
use Rattle.std.specs.Option.{option_map}
use Rattle.class_record.specs.Files.{Name}
use Rattle.class_record.specs.Required.{is_same_sup, are_same}

-- nothing is left, at a place where nothing stands
pub any_none : {A : Type 0} (p : A → Bool) (xs : List A) (k : ℕ) → None ≡ option_map p (slice_get xs k) → list_any p (drop k xs) ≡ false
any_none p [] zero h = refl
any_none p [] (suc k) h = refl
any_none p (x ∷ xs) zero h = absurd cc
any_none p (x ∷ xs) (suc k) h = any_none p xs k h

pub any_past : {A : Type 0} (p : A → Bool) (xs : List A) (k : ℕ) → length xs ≤ k → list_any p (drop k xs) ≡ false
any_past p [] zero h = refl
any_past p [] (suc k) h = refl
any_past p (x ∷ xs) zero h = absurd (omega (arith, h))
any_past p (x ∷ xs) (suc k) h = any_past p xs k (omega (arith, h))

-- what stands at a place, and what is behind it
at : {A : Type 0} (p : A → Bool) (xs : List A) (k : ℕ) (b : Bool) → Some b ≡ option_map p (slice_get xs k) → list_any p (drop k xs) ≡ (b || list_any p (drop (suc k) xs))
at p [] k b h = absurd cc
at p (x ∷ xs) zero b h = let e : p x ≡ b = cc in ap (λ (c : Bool). c || list_any p xs) e
at p (x ∷ xs) (suc k) b h = at p xs k b h

pub any_at : {A : Type 0} (p : A → Bool) (xs : List A) (k : ℕ) (b : Bool) → Some b ≡ option_map p (slice_get xs k) → list_any p (drop k xs) ≡ (b || list_any p (drop (k + 1) xs))
any_at p xs k b h = rw add-one (at p xs k b h)

-- ---- names in their order

same_next : (xs : List Name) (k : ℕ) (n : Name) (ns : List Name) → are_same (drop k xs) (n ∷ ns) ≡ (is_same_sup (slice_get xs k) (Some n) && are_same (drop (suc k) xs) ns)
same_next [] zero n ns = refl
same_next [] (suc k) n ns = refl
same_next (x ∷ xs) zero n ns = refl
same_next (x ∷ xs) (suc k) n ns = same_next xs k n ns

same_here : {A : Type 0} (name : A → Name) (xs : List Name) (k : ℕ) (ns : List A) (d : A) → k < length ns
    → are_same (drop k xs) (map name (drop k ns)) ≡ (is_same_sup (slice_get xs k) (Some (name (get_or ns k d))) && are_same (drop (suc k) xs) (map name (drop (suc k) ns)))
same_here name xs k ns d h =
    ap (λ (rest : List _). are_same (drop k xs) (map name rest)) (drop-cons ns k d h) ∙ same_next xs k (name (get_or ns k d)) (map name (drop (suc k) ns))

-- What stands at a place is tested, and then what is behind it.
pub same_at : {A : Type 0} (name : A → Name) (xs : List Name) (k i : ℕ) (ns : List A) (d : A) (b : Bool) → k ≡ i → i < length ns → b ≡ is_same_sup (slice_get xs k) (Some (name (get_or ns i d)))
    → are_same (drop k xs) (map name (drop k ns)) ≡ (b && are_same (drop (k + 1) xs) (map name (drop (k + 1) ns)))
same_at name xs k i ns d b e h is = subst (λ (n : ℕ). n < length ns → b ≡ is_same_sup (slice_get xs k) (Some (name (get_or ns n d))) → are_same (drop k xs) (map name (drop k ns)) ≡ (b && are_same (drop (k + 1) xs) (map name (drop (k + 1) ns))))
    e (λ h is. rw (add-one, is) (same_here name xs k ns d h)) h is

end_of : (xs : List Name) (k : ℕ) → are_same (drop k xs) [] ≡ is_none (slice_get xs k)
end_of [] zero = refl
end_of [] (suc k) = refl
end_of (x ∷ xs) zero = refl
end_of (x ∷ xs) (suc k) = end_of xs k

pub same_end : {A : Type 0} (name : A → Name) (xs : List Name) (k : ℕ) (ns : List A) → length ns ≤ k → are_same (drop k xs) (map name (drop k ns)) ≡ is_none (slice_get xs k)
same_end name xs k ns h = ap (λ (rest : List _). are_same (drop k xs) (map name rest)) (drop_all k ns h) ∙ end_of xs k

pub same_within : (xs : List Name) (k : ℕ) (n : Name) → true ≡ is_same_sup (slice_get xs k) (Some n) → k < length xs
same_within [] k n h = absurd cc
same_within (x ∷ xs) zero n h = omega arith
same_within (x ∷ xs) (suc k) n h = let s : k < length xs = same_within xs k n h in omega arith
