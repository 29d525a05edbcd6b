use Rattle.std.proofs.Common.{◌≡◌, length}
use Rattle.loader_rules.specs.Packages.{package_of}
use Rattle.loader_rules.proofs.packages.package_of.Given as goal

abbrev pub invariant-loop-front : goal.invariant-loop-front
invariant-loop-front l = package_of l.front ≡ package_of l.name

abbrev pub decreases-loop-front : goal.decreases-loop-front
decreases-loop-front l = length l.front
