use Rattle.std.proofs.Common.{map, sym, ap, ◌∙◌}
use Rattle.std.specs.Option.{option_map}
use Rattle.std.specs.String.{string_bytes}
use Rattle.command_words.specs.Grammar.{request_of}
use Rattle.command_words.specs.Requests.{command_view}
use Rattle.jsa.proofs.Commands.{no_memory}
use Rattle.command_words.proofs.HomePaths.{few_folders}
use Rattle.jsa.proofs.command.do_words.Goals as goal

pub do_command-done-requires : goal.do_command-done-requires
do_command-done-requires g c = record {
  few =
      few_folders (map string_bytes c.args.words.now) (command_view c.in-Ok-Some.command)
      (sym (ap (option_map command_view) c.in-Ok-Some.field-0-is) ∙ c.in-Ok-Some.ensures);
}

pub returns-in-Err-clause-answer : goal.returns-in-Err-clause-answer
returns-in-Err-clause-answer g c =
    no_memory (request_of (map string_bytes c.args.words.now)) (g.F.Files.store c.args.files) (g.F.Files.write_faults c.args.files, g.F.Files.write_faults c.args.files) (g.O.Sink.taken c.args.out.now) (g.E.Sink.taken c.args.err.now) (g.E.Sink.taken c.tell-in-Err.new.err)
    (g.E.Sink.faults c.args.err.now) (g.E.Sink.faults c.tell-in-Err.new.err) (g.E.Sink.can_fail c.args.err.now) c.tell-in-Err.result c.tell-in-Err.ensures.same
