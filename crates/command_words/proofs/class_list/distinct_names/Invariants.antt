use Rattle.std.proofs.Common.{◌≡◌, [], map}
use Rattle.command_words.specs.ClassList.{list_lines}
use Rattle.command_words.proofs.Names.{gathered}
use Rattle.command_words.proofs.class_list.distinct_names.Given as goal

abbrev pub invariant-loop-line : goal.invariant-loop-line
invariant-loop-line l = gathered (map (λ n. n.now) l.names.keys) l.line-iterator ≡ gathered [] (list_lines l.fn.bytes)
