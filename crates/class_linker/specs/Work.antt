-- How much a load has to do at most, so that it ends: each class that begins takes a place among those under way or
-- loaded, of which there are so many, and has so many bases.
use Rattle.std.specs.Prelude.{ℕ, ◌+◌, ◌-◌, ◌*◌, ◌^◌, List, [], ◌∷◌, length}
use Rattle.loaded_classes.specs.Table.{ClassTable}
use Rattle.class_linker.specs.declared.under_way.Frame.{Frame}

-- what the classes under way have left: their bases, and that they complete
abbrev pub pending : List Frame → ℕ
pending [] = 0
pending (f ∷ fs) = (length f.bases - f.done + 1) + pending fs

abbrev pub work : ClassTable → List Frame → ℕ
work t path = 65_538 * (2 ^ 64 + 65_536 - (length t.classes + length path)) + pending path
