use Rattle.std.proofs.Common.{◌≡◌, drop}
use Rattle.std.specs.Option.{option_map}
use Rattle.verify_rules.specs.Types.{top_first}
use Rattle.verify_rules.specs.Classes.{overridden_in}
use Rattle.verify_rules.specs.Walking.{is_final_method}
use Rattle.type_verifier.proofs.classes.overridden_final.Given as goal

abbrev pub invariant-loop-upper : goal.invariant-loop-upper
invariant-loop-upper l = option_map is_final_method (overridden_in l.tree l.m (top_first l.lower) l.c (drop l.upper-index l.methods)) ≡ option_map is_final_method (overridden_in l.tree l.m (top_first l.lower) l.c l.methods)
