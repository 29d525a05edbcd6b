use Rattle.std.proofs.Common.{◌≡◌, map}
use Rattle.std.specs.String.{string_bytes}
use Rattle.command_words.proofs.home_words.folders_in.Given as goal

abbrev pub invariant-loop-folder : goal.invariant-loop-folder
invariant-loop-folder l = map string_bytes l.folders.items ≡ map (λ s. s.now) l.yielded
