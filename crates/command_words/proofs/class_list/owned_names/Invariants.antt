use Rattle.std.proofs.Common.{◌≡◌, ◌++◌, map}
use Rattle.command_words.proofs.class_list.owned_names.Given as goal

abbrev pub invariant-loop-name : goal.invariant-loop-name
invariant-loop-name l = map (λ n. n.items) l.own.items ++ map (λ n. n.now) l.name-iterator ≡ map (λ n. n.now) l.names.keys
