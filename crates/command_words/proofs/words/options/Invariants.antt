use Rattle.std.proofs.Common.{◌≡◌, length, map}
use Rattle.std.specs.String.{string_bytes}
use Rattle.command_words.specs.Words.{nothing, options_from}
use Rattle.command_words.specs.Requests.{taken_view}
use Rattle.command_words.proofs.words.options.Given as goal

abbrev pub invariant-loop-next : goal.invariant-loop-next
invariant-loop-next l = options_from (taken_view l.taken) (map string_bytes l.rest) ≡ options_from nothing (map string_bytes l.fn.words)

abbrev pub decreases-loop-next : goal.decreases-loop-next
decreases-loop-next l = length l.rest
