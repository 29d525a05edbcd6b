use Rattle.std.proofs.Common.{◌≡◌, ◌++◌, length, IsTrue}
use Rattle.std.specs.List.{flat_map, AllByRecursion}
use Rattle.plain_classes.specs.Records.{class_text, have_short_texts, FitsRecord}
use Rattle.plain_classes.proofs.writing.push_classes.Given as goal

abbrev pub invariant-loop-rest : goal.invariant-loop-rest
invariant-loop-rest l =
    (l.bytes.items ++ flat_map class_text l.rest ≡ l.fn.bytes.items ++ flat_map class_text l.fn.classes)
    × (IsTrue (have_short_texts l.rest) × (AllByRecursion FitsRecord l.rest → AllByRecursion FitsRecord l.fn.classes))

abbrev pub decreases-loop-rest : goal.decreases-loop-rest
decreases-loop-rest l = length l.rest
