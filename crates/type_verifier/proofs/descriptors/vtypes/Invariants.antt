use Rattle.std.proofs.Common.{◌≡◌, ◌++◌, drop}
use Rattle.std.specs.Prelude.{map}
use Rattle.verify_rules.specs.Env.{vtype_of}
use Rattle.type_verifier.proofs.descriptors.vtypes.Given as goal

abbrev pub invariant-loop-k : goal.invariant-loop-k
invariant-loop-k l = l.types ++ map vtype_of (drop l.k l.m.parameters) ≡ map vtype_of l.m.parameters
