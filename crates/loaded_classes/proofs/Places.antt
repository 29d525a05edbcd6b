-- What the map from names to places knows once a name is noted.
use Rattle.std.proofs.Common.{◌≡◌, ℕ, Bool, true, false, cond, List, Some, refl, sym, subst, ◌∙◌}
use Rattle.std.specs.Cmp.Lexicographic.{nat_list_eq_equiv}
use Rattle.std.specs.Global.{Vec}
use Rattle.std.specs.HashMap.{HashMap, UpdatesBy}
use Rattle.std.specs.Map.{lookup, IsKeyTest, AreApart, KeepsOthers}
use Rattle.std.specs.Str.{bytes_eq}
use Rattle.std.proofs.lemmas.Slice.Eq.{bytes_eq-Decides}
use Rattle.loaded_classes.specs.Held.{known_at}

others : {K X : Type 0} (eq : K → K → Bool) (test other : K → Bool) (old new : List (K × X)) → KeepsOthers eq test old new → IsKeyTest eq other → AreApart test other → lookup other new ≡ lookup other old
unfolding KeepsOthers
others eq test other old new h one apart = h other one apart

apart : (key bytes k : List ℕ) → bytes_eq key bytes ≡ false → bytes_eq key k ≡ true → bytes_eq bytes k ≡ false
apart key bytes k n y = nat_list_eq_equiv.symm bytes k ∙ sym (nat_list_eq_equiv.congr key k bytes y) ∙ n

updated_by : {S : Type 0} (same : Bool) (key : Vec ℕ) (index : ℕ) (old new : HashMap (Vec ℕ) ℕ S) → UpdatesBy (λ x y. bytes_eq x.items y.items) (λ k. bytes_eq key.items k.items) old new (Some index)
    → (bytes : List ℕ) → bytes_eq key.items bytes ≡ same → known_at new bytes ≡ cond same (Some index) (known_at old bytes)
updated_by true key index old new h bytes e = subst (λ (b : List ℕ). known_at new b ≡ Some index) ((bytes_eq-Decides key.items bytes).0 e) h.1
updated_by false key index old new h bytes e =
    others (λ (x y : Vec ℕ). bytes_eq x.items y.items) (λ (k : Vec ℕ). bytes_eq key.items k.items) (λ (k : Vec ℕ). bytes_eq bytes k.items) old.entries new.entries h.3
    (λ x y. nat_list_eq_equiv.congr bytes x.items y.items) (λ k. apart key.items bytes k.items e)

pub updated : {S : Type 0} (key : Vec ℕ) (index : ℕ) (old new : HashMap (Vec ℕ) ℕ S) → UpdatesBy (λ x y. bytes_eq x.items y.items) (λ k. bytes_eq key.items k.items) old new (Some index)
    → (bytes : List ℕ) → known_at new bytes ≡ cond (bytes_eq key.items bytes) (Some index) (known_at old bytes)
updated key index old new h bytes = updated_by (bytes_eq key.items bytes) key index old new h bytes refl
