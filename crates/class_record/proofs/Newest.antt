-- Classes in load order, and the newest first.
use Rattle.std.proofs.Common.{◌≡◌, List, [], ◌∷◌, ◌++◌, Bool, true, false, ◌||◌, refl, sym, ◌∙◌, ap, subst}
use Rattle.std.specs.Prelude.{reverse}
use Rattle.std.specs.Str.{bytes_eq}
use Rattle.std.proofs.lemmas.List.{reverse-append, map-append}
use Rattle.class_record.specs.Files.{Name}
use Rattle.class_record.specs.Loading.{is_among}
use Rattle.class_record.specs.Facts.{Facts, name_of, names_of}
use Rattle.class_record.specs.Ancestors.{newest}
use Rattle.class_record.specs.Built.{AreBuilt}
use Rattle.class_record.specs.Laws.{AreDistinct}
use Rattle.class_record.proofs.Orders.{among_appended, distinct_end}

or_swap : (a b : Bool) → (a || (b || false)) ≡ (b || a)
or_swap true true = refl
or_swap true false = refl
or_swap false true = refl
or_swap false false = refl

names_end : (f : Facts) (fs : List Facts) → names_of (reverse (f ∷ fs)) ≡ names_of (reverse fs) ++ f.name ∷ []
names_end f fs = ap names_of (reverse-append (f ∷ []) fs) ∙ map-append name_of (reverse fs) (f ∷ [])

pub among_newest : (n : Name) (fs : List Facts) → is_among n (names_of (reverse fs)) ≡ is_among n (names_of fs)
among_newest n [] = refl
among_newest n (f ∷ fs) =
    ap (is_among n) (names_end f fs)
    ∙ among_appended n (names_of (reverse fs)) (f.name ∷ [])
    ∙ ap (λ (b : Bool). b || (bytes_eq n f.name || false)) (among_newest n fs)
    ∙ or_swap (is_among n (names_of fs)) (bytes_eq n f.name)

back_again : (fs : List Facts) → reverse (reverse fs) ≡ fs
back_again [] = refl
back_again (f ∷ fs) = ap reverse (reverse-append (f ∷ []) fs) ∙ reverse-append (reverse fs) (f ∷ []) ∙ ap (λ (gs : List Facts). f ∷ gs) (back_again fs)

distinct_reversed : (fs : List Facts) → AreBuilt fs → AreDistinct (names_of (reverse fs))
distinct_reversed [] b = tt
distinct_reversed (f ∷ fs) b =
    subst AreDistinct (sym (names_end f fs)) (distinct_end (names_of (reverse fs)) f.name (distinct_reversed fs b.1) (among_newest f.name fs ∙ b.0.is_new))

-- No two loaded classes have one name.
pub built_distinct : (fs : List Facts) → AreBuilt (newest fs) → AreDistinct (names_of fs)
built_distinct fs b = subst (λ (gs : List Facts). AreDistinct (names_of gs)) (back_again fs) (distinct_reversed (newest fs) b)
