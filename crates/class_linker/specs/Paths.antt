-- The classes whose loading is under way, as the code holds them.
use Rattle.std.specs.Prelude.{◌≡◌, ℕ, ◌<◌, ◌≤◌, List, [], ◌∷◌, length, map, Option, Some, None, ⊤}
use Rattle.std.specs.Global.{Vec}
use Rattle.std.specs.HashSet.{HashSet}
use Rattle.std.specs.Borrow.{Bor}
use Rattle.class_linker.specs.declared.under_way.Frame.{Frame}
use Rattle.class_linker.specs.Kept.{names_under}

-- the innermost class
abbrev pub IsTop : List Frame → Option (Bor Frame) → Type 0
IsTop [] result = result ≡ None
IsTop (f ∷ fs) None = ⊥
IsTop (f ∷ fs) (Some top) = top.now ≡ f

abbrev pub without_top : List Frame → List Frame
without_top [] = []
without_top (f ∷ fs) = fs

-- The set has their names, in the same order.
abbrev pub KnowsNames : {S : Type 0} → HashSet (Vec ℕ) S → List Frame → Type 0
KnowsNames names frames = map (λ key. key.items) names.keys ≡ names_under frames

-- The innermost class has a base left, and no more bases than class files have.
abbrev pub HasBaseLeft : List Frame → Type 0
HasBaseLeft [] = ⊤
HasBaseLeft (f ∷ fs) = (f.done < length f.bases) × (length f.bases ≤ 65_536)
