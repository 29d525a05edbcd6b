use Rattle.std.proofs.Common.{◌≡◌, ◌++◌, length}
use Rattle.boot_library.specs.Home.{names_text}
use Rattle.boot_library.proofs.home.names_text.Given as goal

-- The lines so far and those of the rest are the list.
abbrev pub invariant-loop-rest : goal.invariant-loop-rest
invariant-loop-rest l = l.list.items ++ names_text l.rest ≡ names_text l.trees

abbrev pub decreases-loop-rest : goal.decreases-loop-rest
decreases-loop-rest l = length l.rest
