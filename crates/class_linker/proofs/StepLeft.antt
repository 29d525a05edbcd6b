-- What is left to do, cut where the next base of the innermost class is loaded.
use Rattle.std.proofs.Common.{◌≡◌, List, [], ◌∷◌, refl, sym, ◌∙◌, ap, subst}
use Rattle.class_record.specs.declared.bases.Base.{Base}
use Rattle.class_record.specs.Files.{RunFiles}
use Rattle.class_record.specs.Loading.{Outcome, and_then, completes, tests, loads_bases, load_under}
use Rattle.class_linker.specs.declared.under_way.Frame.{Frame}
use Rattle.class_linker.specs.Kept.{names_under, bases_left}
use Rattle.class_linker.specs.Steps.{loads_rest, tests_then, left_after, left_of, load_in}
use Rattle.class_linker.proofs.StepOutcomes.{then_assoc, then_nothing}

-- a load, its tests, the bases behind it, the class itself, and all else
cut : (load tested others done rest : Outcome) → and_then (and_then (and_then (and_then load tested) others) done) rest ≡ and_then load (and_then tested (and_then (and_then others done) rest))
cut load tested others done rest =
    then_assoc (and_then (and_then load tested) others) done rest
    ∙ then_assoc (and_then load tested) others (and_then done rest)
    ∙ then_assoc load tested (and_then others (and_then done rest))
    ∙ ap (λ (o : Outcome). and_then load (and_then tested o)) (sym (then_assoc others done rest))

cut_by : (p : RunFiles) (f : Frame) (fs : List Frame) (b : Base) (bs left : List Base) (rest : Outcome) → left ≡ b ∷ bs
    → and_then (loads_rest p fs f left) rest ≡ and_then (load_in p (f ∷ fs) f.loader b.name) (tests_then p fs f rest left)
cut_by p f fs b bs left rest h =
    subst (λ (l : List Base). and_then (loads_rest p fs f l) rest ≡ and_then (load_in p (f ∷ fs) f.loader b.name) (tests_then p fs f rest l)) (sym h)
    (cut (load_under p (f.name ∷ names_under fs) f.loader b.name) (tests p f.name f.loader b) (loads_bases (load_under p) p (names_under fs) f.name f.loader bs) (completes f.name) rest)

-- The next base is loaded, and then the rest is done.
pub left_cut : (p : RunFiles) (f : Frame) (fs : List Frame) (b : Base) (bs : List Base) → bases_left f ≡ b ∷ bs
    → left_of p (f ∷ fs) ≡ and_then (load_in p (f ∷ fs) f.loader b.name) (left_after p (f ∷ fs))
unfolding left_after
left_cut p f fs b bs h = cut_by p f fs b bs (bases_left f) (left_after p fs) h

-- The next base is tested, and then the rest is done.
pub after_cut : (p : RunFiles) (f : Frame) (fs : List Frame) (b : Base) (bs : List Base) → bases_left f ≡ b ∷ bs
    → left_after p (f ∷ fs) ≡ and_then (tests p f.name f.loader b) (and_then (loads_rest p fs f bs) (left_after p fs))
unfolding left_after
after_cut p f fs b bs h = ap (tests_then p fs f (left_after p fs)) h

-- Of a class under way alone, what is left is its own.
pub left_alone : (p : RunFiles) (f : Frame) → left_of p (f ∷ []) ≡ loads_rest p [] f (bases_left f)
unfolding left_after
left_alone p f = then_nothing (loads_rest p [] f (bases_left f))

pub after_none : (p : RunFiles) → left_after p [] ≡ left_of p []
unfolding left_after
after_none p = refl
