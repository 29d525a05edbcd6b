-- What words that were read ask for.
use Rattle.std.specs.Prelude.{ℕ, List, Bool, true, false, map, String}
use Rattle.std.specs.Borrow.{Bor}
use Rattle.std.specs.Global.{Global}
use Rattle.std.specs.Option.{option_copied, option_map}
use Rattle.std.specs.String.{string_bytes}
use Rattle.command_words.specs.declared.requests.Share.{Share}
use Rattle.command_words.specs.declared.requests.Share.TheVariants.{Auto, On}
use Rattle.command_words.specs.declared.requests.RunWords.{RunWords}
use Rattle.command_words.specs.declared.requests.DumpWords.{DumpWords}
use Rattle.command_words.specs.declared.requests.AsmWords.{AsmWords}
use Rattle.command_words.specs.declared.requests.HomeRun.{HomeRun as HomeRunWords}
use Rattle.command_words.specs.declared.requests.Command.{Command}
use Rattle.command_words.specs.declared.requests.Command.TheVariants as commands
use Rattle.command_words.specs.declared.words.Taken.{Taken as TakenWords}
use Rattle.command_words.specs.declared.home_words.HomeOptions.{HomeOptions as HomeOptionWords}
use Rattle.command_words.specs.Words.{Taken, RunRequest, DumpRequest, AsmRequest}
use Rattle.command_words.specs.HomeWords.{HomeOptions, HomeRequest, pieces_of}
use Rattle.command_words.specs.Grammar.{Request, Run, Dump, Asm, HomeRun, MakeHome}

abbrev pub is_on_share : Share → Bool
is_on_share Auto = false
is_on_share On = true

abbrev pub run_view : RunWords → RunRequest
run_view w = record { folder = string_bytes w.folder; on = is_on_share w.share; archive = string_bytes w.archive; steps = w.steps; name = string_bytes w.name }

abbrev pub dump_view : DumpWords → DumpRequest
dump_view w = record { folder = string_bytes w.folder; archive = string_bytes w.archive; list = string_bytes w.list }

abbrev pub asm_view : AsmWords → AsmRequest
asm_view w = record { text = string_bytes w.text; folder = string_bytes w.folder }

abbrev pub home_view : HomeRunWords → HomeRequest
home_view w = record { home = string_bytes w.home; folders = map string_bytes w.folders.items; list = option_map string_bytes w.list; steps = w.steps; name = w.name.items }

abbrev pub command_view : Command → Request
command_view (commands.Run words) = Run (run_view words)
command_view (commands.Dump words) = Dump (dump_view words)
command_view (commands.Asm words) = Asm (asm_view words)
command_view (commands.HomeRun words) = HomeRun (home_view words)
command_view (commands.MakeHome folder) = MakeHome (string_bytes folder)

-- the options that were taken, as lists of bytes
abbrev pub taken_view : TakenWords → Taken
taken_view t = record { folder = option_copied t.folder; archive = option_copied t.archive; list = option_copied t.list; steps = t.steps; sharing = t.sharing }

-- the same, with the words behind them
abbrev pub left_view : TakenWords × Bor (List (String Global)) → Taken × List (List ℕ)
left_view left = (taken_view left.0, map string_bytes left.1.now)

-- the options of a run over a home, with the pieces of the class path
abbrev pub home_options_view : HomeOptionWords → HomeOptions
home_options_view o = record { home = o.home.now; folders = pieces_of o.path.now; list = option_copied o.list; steps = o.steps; archive = option_copied o.archive; off = o.off }

-- the same, with the words behind them
abbrev pub home_left_view : HomeOptionWords × Bor (List (String Global)) → HomeOptions × List (List ℕ)
home_left_view left = (home_options_view left.0, map string_bytes left.1.now)
