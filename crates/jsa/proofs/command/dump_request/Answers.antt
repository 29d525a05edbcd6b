use Rattle.std.proofs.Common.{subst, ap, ℕ, Option, Some}
use Rattle.jsa_files.specs.Store.{Contents}
use Rattle.jsa_files.specs.Told.{contents_told}
use Rattle.command_words.specs.Grammar.{Dump}
use Rattle.command_words.specs.Requests.{dump_view}
use Rattle.jsa.specs.Dumps.{DumpAnswers}
use Rattle.jsa.specs.Steps.{texts_of}
use Rattle.jsa.specs.Command.{RequestAnswers, CountsFor, CountsDump, OthersStay}
use Rattle.jsa.proofs.Tells.{answered_as, front_as}
use Rattle.jsa.proofs.Dumping.{listed_then}
use Rattle.jsa.proofs.command.dump_request.Goals as goal

pub returns-in-Ok-clause-answer : goal.returns-in-Ok-clause-answer
returns-in-Ok-clause-answer g c =
    let d = dump_view c.args.request.now in
    let old = g.F.Files.store c.args.files.now in
    let mid = g.F.Files.store c.read_names.new.files in
    let new = g.F.Files.store c.dump_listed.new.files in
    let failed = g.F.Files.write_faults c.dump_listed.new.files in
    let before = g.O.Sink.taken c.args.out.now in
    let after = g.O.Sink.taken c.dump_listed.new.out in
    answered_as (RequestAnswers (Some (Dump d)) mid new (g.F.Files.write_faults c.read_names.new.files, failed) before after) (RequestAnswers (Some (Dump d)) old new (g.F.Files.write_faults c.args.files.now, failed) before after) 0 (g.E.Sink.taken c.args.err.now) (g.E.Sink.taken c.dump_listed.new.err) (g.E.Sink.faults c.args.err.now) (g.E.Sink.faults c.dump_listed.new.err) (g.E.Sink.can_fail c.args.err.now)
    c.dump_listed.result (λ s e h. (subst (λ (n : ℕ). DumpAnswers (contents_told old) (contents_told new) (n, failed) d before after s e) c.in-Ok.ensures.writes (subst (λ (m : Option Contents). DumpAnswers m (contents_told new) (g.F.Files.write_faults c.read_names.new.files, failed) d before after s e) c.in-Ok.ensures.contents h.0), h.1))
    (listed_then (contents_told old) (contents_told mid) d (texts_of c.as_slice.result.now) (texts_of c.in-Ok.names.items) _ c.in-Ok.ensures.contents (ap texts_of c.as_slice.ensures.value) c.in-Ok.ensures.lists.0 c.in-Ok.ensures.lists.1 c.dump_listed.ensures.answer)

pub returns-in-Ok-clause-leaves : goal.returns-in-Ok-clause-leaves
returns-in-Ok-clause-leaves g c =
    let d = dump_view c.args.request.now in
    let old = g.F.Files.store c.args.files.now in
    let mid = g.F.Files.store c.read_names.new.files in
    let new = g.F.Files.store c.dump_listed.new.files in
    subst (λ (m : Option Contents). OthersStay d.archive m (contents_told new)) c.in-Ok.ensures.contents
    (listed_then (contents_told old) (contents_told mid) d (texts_of c.as_slice.result.now) (texts_of c.in-Ok.names.items) _ c.in-Ok.ensures.contents (ap texts_of c.as_slice.ensures.value) c.in-Ok.ensures.lists.0 c.in-Ok.ensures.lists.1 c.dump_listed.ensures.leaves)

pub returns-in-Ok-clause-memory : goal.returns-in-Ok-clause-memory
returns-in-Ok-clause-memory g c = λ memory.
    let d = dump_view c.args.request.now in
    let old = g.F.Files.store c.args.files.now in
    let mid = g.F.Files.store c.read_names.new.files in
    let new = g.F.Files.store c.dump_listed.new.files in
    let failed = g.F.Files.write_faults c.dump_listed.new.files in
    let before = g.O.Sink.taken c.args.out.now in
    let after = g.O.Sink.taken c.dump_listed.new.out in
    let outs = g.O.Sink.faults c.args.out.now in
    let outs' = g.O.Sink.faults c.dump_listed.new.out in
    let files' = g.F.Files.write_faults c.dump_listed.new.files in
    front_as (RequestAnswers (Some (Dump d)) mid new (g.F.Files.write_faults c.read_names.new.files, failed) before after) (RequestAnswers (Some (Dump d)) old new (g.F.Files.write_faults c.args.files.now, failed) before after)
    (CountsFor (Some (Dump d)) (g.F.Files.write_faults c.read_names.new.files) files' outs outs') (CountsFor (Some (Dump d)) (g.F.Files.write_faults c.args.files.now) files' outs outs') 0 (g.E.Sink.taken c.args.err.now) (g.E.Sink.taken c.dump_listed.new.err)
    (g.F.Files.read_faults c.args.files.now) (g.F.Files.read_faults c.read_names.new.files) (g.F.Files.read_faults c.dump_listed.new.files)
    (λ s e h. (subst (λ (n : ℕ). DumpAnswers (contents_told old) (contents_told new) (n, failed) d before after s e) c.in-Ok.ensures.writes (subst (λ (m : Option Contents). DumpAnswers m (contents_told new) (g.F.Files.write_faults c.read_names.new.files, failed) d before after s e) c.in-Ok.ensures.contents h.0), h.1))
    (λ e h. subst (λ (f : ℕ). CountsDump f files' outs outs' e) c.in-Ok.ensures.writes h) c.in-Ok.ensures.counts
    (listed_then (contents_told old) (contents_told mid) d (texts_of c.as_slice.result.now) (texts_of c.in-Ok.names.items) _ c.in-Ok.ensures.contents (ap texts_of c.as_slice.ensures.value) c.in-Ok.ensures.lists.0 c.in-Ok.ensures.lists.1 c.dump_listed.ensures.memory memory)
