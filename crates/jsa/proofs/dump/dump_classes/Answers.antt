use Rattle.std.proofs.Common.{subst, refl, length, List, ℕ}
use Rattle.jsa.specs.Steps.{WritesArchive}
use Rattle.jsa_files.specs.Told.{contents_told}
use Rattle.command_words.specs.Requests.{dump_view}
use Rattle.jsa.proofs.Dumping.{too_many, too_large, writes}
use Rattle.jsa.proofs.dump.dump_classes.Goals as goal

pub returns-in-Err-TooMany-clause-answer : goal.returns-in-Err-TooMany-clause-answer
returns-in-Err-TooMany-clause-answer g c = λ x is is' name.
    too_many (contents_told (g.F.Files.store c.args.files.now)) (contents_told (g.F.Files.store c.args.files.now)) (g.F.Files.write_faults c.args.files.now, g.F.Files.write_faults c.args.files.now) (dump_view c.args.request.now) (g.O.Sink.taken c.args.out.now) name x c.args.classes.now is
    (rw c.in-Err-TooMany.field-0-is at c.in-Err-TooMany.ensures) refl

pub returns-in-Err-TooLarge-clause-answer : goal.returns-in-Err-TooLarge-clause-answer
returns-in-Err-TooLarge-clause-answer g c = λ x is is' name.
    let cause = rw c.in-Err-TooLarge.field-0-is at c.in-Err-TooLarge.ensures in
    too_large (contents_told (g.F.Files.store c.args.files.now)) (contents_told (g.F.Files.store c.args.files.now)) (g.F.Files.write_faults c.args.files.now, g.F.Files.write_faults c.args.files.now) (dump_view c.args.request.now) (g.O.Sink.taken c.args.out.now) name x c.args.classes.now c.args.now.now is is'
    cause.0 cause.1 refl

pub returns-in-Ok-clause-answer : goal.returns-in-Ok-clause-answer
returns-in-Ok-clause-answer g c = λ x is is' name.
    let old = contents_told (g.F.Files.store c.args.files.now) in
    let new = contents_told (g.F.Files.store c.write_archive.new.files) in
    let before = g.O.Sink.taken c.args.out.now in
    let after = g.O.Sink.taken c.write_archive.new.out in
    let faults : ℕ × ℕ = (g.F.Files.write_faults c.args.files.now, g.F.Files.write_faults c.write_archive.new.files) in
    let count = length c.args.classes.now in
    let ended = c.write_archive.result in
    let at_path = subst (λ (p : List ℕ). WritesArchive old new faults p c.as_slice.result.now count before after ended) c.as_str.ensures.value c.write_archive.ensures.writes in
    let of_bytes = subst (λ (b : List ℕ). WritesArchive old new faults (dump_view c.args.request.now).archive b count before after ended) c.as_slice.ensures.value at_path in
    writes old new faults (dump_view c.args.request.now) before after name x c.args.classes.now c.args.now.now c.in-Ok.archive.items ended is is' c.in-Ok.ensures c.requires.one of_bytes
