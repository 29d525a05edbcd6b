-- Types that are taken from the top of a stack together, and put there one after the other.
use Rattle.std.proofs.Common.{◌≡◌, ℕ, ◌+◌, Bool, true, false, cond, List, [], ◌∷◌, ◌++◌, refl, sym, ◌∙◌, ap, subst, append_assoc, arith}
use Rattle.std.specs.Prelude.{Result, Ok, Err, nat_le}
use Rattle.std.proofs.lemmas.Bool.{leb-false, lt-leb}
use Rattle.verify_rules.specs.declared.types.VType.{VType}
use Rattle.verify_rules.specs.Types.{size, units}
use Rattle.verify_rules.proofs.Tops.{units-append}
use Rattle.verify_rules.specs.declared.cause.Cause.TheVariants.{Room}
use Rattle.verify_rules.specs.declared.cause.Stop.{Stop}
use Rattle.verify_rules.specs.Causes.{Typed, Does, ◌>>=◌}
use Rattle.verify_rules.specs.Letters.{push}
use Rattle.verify_rules.specs.StackForms.{put}
use Rattle.verify_rules.specs.StackSteps.{push_both, put_both}

-- ---- putting

-- a type alone
pub push_is_put : (room : ℕ) (t : VType) (stack : List VType) → push room t stack ≡ put room (t ∷ []) stack
unfolding units
push_is_put room t stack =
    let e : units stack + size t ≡ size t + 0 + units stack = omega arith in
    ap (λ (n : ℕ). cond (nat_le n room) (Ok (t ∷ stack)) (Err Room)) e

-- where the lower ones don't fit, all together don't
join : {X Y : Type 0} (b c : Bool) (x : X) (y : Y) (f : X → Typed Y) → (b ≡ false → c ≡ false) → f x ≡ cond c (Ok y) (Err Room) → cond c (Ok y) (Err Room) ≡ (cond b (Ok x) (Err Room) >>= f)
join true c x y f h e = sym e
join false c x y f h e = rw (h refl) refl

-- types are put together, or one after the other
pub put_join : (room : ℕ) (upper lower stack : List VType) → put room (upper ++ lower) stack ≡ (put room lower stack >>= λ (s : List VType). put room upper s)
put_join room upper lower stack =
    let low = units lower + units stack in
    let all = units (upper ++ lower) + units stack in
    let u : units (upper ++ lower) ≡ units upper + units lower = units-append upper lower in
    let v : units (lower ++ stack) ≡ units lower + units stack = units-append lower stack in
    let same : all ≡ units upper + units (lower ++ stack) = omega arith in
    join (nat_le low room) (nat_le all room) (lower ++ stack) ((upper ++ lower) ++ stack) (λ (s : List VType). put room upper s)
    (λ (e : nat_le low room ≡ false). lt-leb all room (let k = leb-false low room e in omega arith))
    (rw (same, append_assoc) refl)

same_then : {A B : Type 0} (o : Typed A) (f g : A → Typed B) → ((x : A) → f x ≡ g x) → (o >>= f) ≡ (o >>= g)
same_then (Ok x) f g h = h x
same_then (Err cause) f g h = refl

-- a type on top of another is two of them
push_more : (room : ℕ) (t u : VType) (stack : List VType) → put room (t ∷ u ∷ []) stack ≡ (push room u stack >>= λ (s : List VType). push room t s)
push_more room t u stack =
    put_join room (t ∷ []) (u ∷ []) stack
    ∙ (ap (λ (a : Typed (List VType)). a >>= λ (s : List VType). put room (t ∷ []) s) (sym (push_is_put room u stack))
    ∙ same_then (push room u stack) (λ (s : List VType). put room (t ∷ []) s) (λ (s : List VType). push room t s) (λ (s : List VType). sym (push_is_put room t s)))

-- ---- what was put

module _ {U : Type 0} (room : ℕ) (stack : List VType) (r : Result U Stop) (y : List VType) where
  -- a type alone
  pub one_put : (t : VType) → Does (push room t stack) r y → Does (put room (t ∷ []) stack) r y
  one_put t h = subst (λ (a : Typed (List VType)). Does {U = U} a r y) (push_is_put room t stack) h

  -- a type on top of another
  pub two_put : (t u : VType) → Does (push_both room t u stack) r y → Does (put room (t ∷ u ∷ []) stack) r y
  unfolding push_both
  two_put t u h = subst (λ (a : Typed (List VType)). Does {U = U} a r y) (sym (push_more room t u stack)) h

  -- types on top of others
  pub both_put : (upper lower : List VType) → Does (put_both room upper lower stack) r y → Does (put room (upper ++ lower) stack) r y
  unfolding put_both
  both_put upper lower h = subst (λ (a : Typed (List VType)). Does {U = U} a r y) (sym (put_join room upper lower stack)) h

  -- types on top of others, and these on top of more
  pub three_put : (upper middle lower : List VType) → Does (put_both room (upper ++ middle) lower stack) r y → Does (put room (upper ++ (middle ++ lower)) stack) r y
  three_put upper middle lower h = subst (λ (types : List VType). Does {U = U} (put room types stack) r y) (append_assoc upper middle lower) (both_put (upper ++ middle) lower h)
