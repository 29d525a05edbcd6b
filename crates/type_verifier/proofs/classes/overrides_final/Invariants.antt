use Rattle.std.proofs.Common.{◌≡◌, drop, [], ◌∷◌}
use Rattle.class_tree.specs.ClassNames.{own_name}
use Rattle.verify_rules.specs.Types.{top_first}
use Rattle.verify_rules.specs.Classes.{overrides_final}
use Rattle.type_verifier.proofs.classes.overrides_final.Given as goal

abbrev pub invariant-loop-c : goal.invariant-loop-c
invariant-loop-c l = overrides_final l.tree l.m (top_first l.lower) (drop l.c-index l.supers) ≡ overrides_final l.tree l.m (record { name = own_name l.tree; loader = l.fn.loader } ∷ []) l.supers
