-- What begins and what completes in events one after the other.
use Rattle.std.proofs.Common.{◌≡◌, List, [], ◌∷◌, ◌++◌, refl, ap}
use Rattle.class_record.specs.Files.{Name}
use Rattle.class_record.specs.Loading.{Event, Begins, Completes, begun_in, completed_in}

pub begun_append : (xs ys : List Event) → begun_in (xs ++ ys) ≡ begun_in xs ++ begun_in ys
begun_append [] ys = refl
begun_append (Begins n ∷ xs) ys = ap (λ (ns : List Name). n ∷ ns) (begun_append xs ys)
begun_append (Completes n ∷ xs) ys = begun_append xs ys

pub completed_append : (xs ys : List Event) → completed_in (xs ++ ys) ≡ completed_in xs ++ completed_in ys
completed_append [] ys = refl
completed_append (Begins n ∷ xs) ys = completed_append xs ys
completed_append (Completes n ∷ xs) ys = ap (λ (ns : List Name). n ∷ ns) (completed_append xs ys)
