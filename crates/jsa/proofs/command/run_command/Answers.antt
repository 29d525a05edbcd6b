use Rattle.std.proofs.Common.{map, refl}
use Rattle.std.specs.String.{string_bytes}
use Rattle.command_words.specs.Grammar.{request_of}
use Rattle.jsa.proofs.ArchivePaths.{classes_stay}
use Rattle.jsa.proofs.Completes.{completes}
use Rattle.jsa.proofs.Headline.{headline}
use Rattle.jsa.proofs.command.run_command.Goals as goal

pub returns-clause-complete : goal.returns-clause-complete
returns-clause-complete g c = λ calm calm' calm''.
    let answered = c.do_words.ensures.answer in
    completes (request_of (map string_bytes c.args.words.now)) (g.F.Files.store c.args.files) (g.F.Files.store c.do_words.result.1) (g.O.Sink.taken c.args.out.now) (g.O.Sink.taken c.do_words.new.out) answered.subject c.do_words.result.0
    (g.F.Files.read_faults c.args.files) (g.F.Files.read_faults c.do_words.result.1) (g.F.Files.write_faults c.args.files) (g.F.Files.write_faults c.do_words.result.1) (g.O.Sink.faults c.args.out.now) (g.O.Sink.faults c.do_words.new.out)
    answered.answer c.do_words.ensures.read_fault c.do_words.ensures.write_fault calm calm' calm''

pub returns-clause-headline : goal.returns-clause-headline
returns-clause-headline g c =
    let answered = c.do_words.ensures.answer in
    let words = map string_bytes c.args.words.now in
    headline words (request_of words) (g.F.Files.store c.args.files) (g.F.Files.store c.do_words.result.1) (g.F.Files.write_faults c.args.files, g.F.Files.write_faults c.do_words.result.1) (g.O.Sink.taken c.args.out.now) (g.O.Sink.taken c.do_words.new.out) answered.subject c.do_words.result.0 refl answered.answer

pub returns-clause-class_files : goal.returns-clause-class_files
returns-clause-class_files g c =
    let words = map string_bytes c.args.words.now in
    classes_stay (request_of words) words (g.F.Files.store c.args.files) (g.F.Files.store c.do_words.result.1) refl c.do_words.ensures.leaves
