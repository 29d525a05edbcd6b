-- What is held at one place among the class files that were read.
use Rattle.std.proofs.Common.{◌≡◌, ℕ, zero, suc, List, [], ◌∷◌, length, true, false, Option, Some, refl, ◌∙◌, ap, subst}
use Rattle.std.specs.Prelude.{slice_get}
use Rattle.std.specs.Option.{option_map}
use Rattle.std.specs.List.{AllByRecursion}
use Rattle.std.specs.Str.{bytes_eq}
use Rattle.class_record.specs.Files.{Name}
use Rattle.class_record.specs.Loading.{is_among}
use Rattle.class_record.proofs.Again.{itself, among_more}
use Rattle.class_record.proofs.Orders.{itself_equal}
use Rattle.class_linker.specs.declared.readings.Held.{Held}
use Rattle.class_linker.specs.declared.readings.Held.TheVariants.{Loaded}
use Rattle.class_linker.specs.declared.readings.Reading.{Reading}
use Rattle.class_linker.specs.Kept.{names_read, held_as, with_held}

pub length_held : (rs : List Reading) (place : ℕ) (held : Held) → length (with_held rs place held) ≡ length rs
length_held [] place held = refl
length_held (r ∷ rs) zero held = refl
length_held (r ∷ rs) (suc place) held = ap suc (length_held rs place held)

pub names_held : (rs : List Reading) (place : ℕ) (held : Held) → names_read (with_held rs place held) ≡ names_read rs
names_held [] place held = refl
names_held (r ∷ rs) zero held = refl
names_held (r ∷ rs) (suc place) held = ap (λ (ns : List Name). r.name ∷ ns) (names_held rs place held)

pub taken_is : (rs : List Reading) (place : ℕ) (r : Reading) (held : Held) → slice_get rs place ≡ Some r → option_map (λ r. r.held) (slice_get rs place) ≡ Some held → r.held ≡ held
taken_is rs place r held at e = let i : option_map (λ (x : Reading). x.held) (Some r) ≡ Some held = subst (λ (o : Option Reading). option_map (λ (x : Reading). x.held) o ≡ Some held) at e in cc

same_held : (r : Reading) (held : Held) → r.held ≡ held → held_as held r ≡ r
same_held r held e = subst (λ (h : Held). held_as h r ≡ r) e refl

-- What is given back is there again.
pub put_again : (rs : List Reading) (place : ℕ) (r : Reading) (held : Held) → slice_get rs place ≡ Some r → r.held ≡ held → with_held (with_held rs place Loaded) place held ≡ rs
put_again [] place r held at e = refl
put_again (x ∷ rs) zero r held at e = let i : x ≡ r = cc in ap (λ (y : Reading). y ∷ rs) (same_held x held (ap (λ (y : Reading). y.held) i ∙ e))
put_again (x ∷ rs) (suc place) r held at e = ap (λ (ys : List Reading). x ∷ ys) (put_again rs place r held at e)

-- Another name's class file is held as before.
pub held_other : (rs : List Reading) (place k : ℕ) (r x : Reading) (held : Held) → slice_get rs place ≡ Some r → slice_get rs k ≡ Some x → bytes_eq r.name x.name ≡ false
    → slice_get (with_held rs place held) k ≡ Some x
held_other [] place k r x held at there other = there
held_other (y ∷ rs) zero zero r x held at there other =
    let i : r ≡ x = cc in
    let j : bytes_eq r.name x.name ≡ true = subst (λ (z : Reading). bytes_eq r.name z.name ≡ true) i (itself_equal r.name) in absurd cc
held_other (y ∷ rs) zero (suc k) r x held at there other = there
held_other (y ∷ rs) (suc place) zero r x held at there other = there
held_other (y ∷ rs) (suc place) (suc k) r x held at there other = held_other rs place k r x held at there other

-- What is so of all that were read stays so, where it does at the place.
pub all_held : (P Q : Reading → Type 0) (rs : List Reading) (place : ℕ) (r : Reading) (held : Held) → ((x : Reading) → P x → Q x) → slice_get rs place ≡ Some r → Q (held_as held r)
    → AllByRecursion P rs → AllByRecursion Q (with_held rs place held)
all_held P Q [] place r held f at q h = tt
all_held P Q (x ∷ rs) zero r held f at q h = let i : r ≡ x = cc in (subst (λ (y : Reading). Q (held_as held y)) i q, all_too P Q f rs h.1)
  where
    all_too : (P Q : Reading → Type 0) → ((x : Reading) → P x → Q x) → (rs : List Reading) → AllByRecursion P rs → AllByRecursion Q rs
    all_too P Q f [] h = tt
    all_too P Q f (x ∷ rs) h = (f x h.0, all_too P Q f rs h.1)
all_held P Q (x ∷ rs) (suc place) r held f at q h = (f x h.0, all_held P Q rs place r held f at q h.1)

pub name_there : (rs : List Reading) (place : ℕ) (r : Reading) → slice_get rs place ≡ Some r → is_among r.name (names_read rs) ≡ true
name_there [] place r at = absurd cc
name_there (x ∷ rs) zero r at = let i : x ≡ r = cc in subst (λ (y : Reading). is_among y.name (x.name ∷ names_read rs) ≡ true) i (itself x.name (names_read rs))
name_there (x ∷ rs) (suc place) r at = among_more r.name x.name (names_read rs) (name_there rs place r at)
