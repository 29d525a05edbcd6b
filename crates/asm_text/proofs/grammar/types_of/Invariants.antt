use Rattle.std.proofs.Common.{◌≡◌, drop}
use Rattle.class_tree.specs.Trees.{each}
use Rattle.asm_text.specs.Grammar.{type_of}
use Rattle.asm_text.proofs.Each.{with_front}
use Rattle.asm_text.proofs.grammar.types_of.Given as goal

abbrev pub invariant-loop-token : goal.invariant-loop-token
invariant-loop-token l = with_front l.types (each type_of (drop l.token-index l.tokens)) ≡ each type_of l.tokens
