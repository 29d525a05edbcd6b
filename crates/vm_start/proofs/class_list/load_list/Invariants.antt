use Rattle.std.proofs.Common.{◌≡◌, ◌++◌, drop}
use Rattle.class_record.specs.Facts.{names_of}
use Rattle.class_record.specs.ClassList.{class_list}
use Rattle.vm_start.proofs.class_list.load_list.Given as goal

-- what is written, and the lines that are left
abbrev pub invariant-loop-id : goal.invariant-loop-id
invariant-loop-id g l =
    l.list.items ++ class_list (drop l.id (names_of (g.C.Classes.classes l.classes))) ≡ class_list (names_of (g.C.Classes.classes l.classes))
