use Rattle.std.proofs.Common.{◌≡◌, length, map}
use Rattle.std.specs.String.{string_bytes}
use Rattle.command_words.specs.HomeWords.{defaults, home_options_from}
use Rattle.command_words.specs.Requests.{home_options_view}
use Rattle.command_words.proofs.home_words.home_options.Given as goal

abbrev pub invariant-loop-next : goal.invariant-loop-next
invariant-loop-next l = home_options_from (home_options_view l.options) (map string_bytes l.rest) ≡ home_options_from defaults (map string_bytes l.fn.words)

abbrev pub decreases-loop-next : goal.decreases-loop-next
decreases-loop-next l = length l.rest
