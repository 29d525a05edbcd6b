use Rattle.std.proofs.Common.{ℕ, Some, refl}
use Rattle.jsa_files.specs.Told.{contents_told, reads_told}
use Rattle.command_words.specs.Grammar.{Asm}
use Rattle.command_words.specs.Requests.{asm_view}
use Rattle.jsa.specs.Command.{RequestAnswers, CountsFor}
use Rattle.jsa.proofs.Tells.{told, could_front}
use Rattle.jsa.proofs.Ends.{reads_memory}
use Rattle.jsa.proofs.Assembles.{asm_memory, asm_leaves}
use Rattle.jsa.proofs.command.assemble_request.Goals as goal

pub returns-clause-answer : goal.returns-clause-answer
returns-clause-answer g c = λ out.
    let a = asm_view c.args.request.now in
    let old = g.F.Files.store c.args.files.now in
    let new = g.F.Files.store c.assemble_file-ended.new.files in
    let faults : ℕ × ℕ = (g.F.Files.write_faults c.args.files.now, g.F.Files.write_faults c.assemble_file-ended.new.files) in
    let ended = c.assemble_file-ended.result in
    let answer = c.assemble_file-ended.ensures.answer in
    let reads = c.assemble_file-ended.ensures.reads in
    told (RequestAnswers (Some (Asm a)) old new faults out out) c.as_bytes.result.now 0 (g.E.Sink.taken c.args.err.now) (g.E.Sink.taken c.tell.new.err) (g.E.Sink.faults c.args.err.now) (g.E.Sink.faults c.tell.new.err) (g.E.Sink.can_fail c.args.err.now)
    ended c.tell.result (answer, reads, refl, λ e. c.as_bytes.ensures.value)
    (asm_memory (contents_told old) (contents_told new) faults a ended answer, reads_memory (reads_told old) (reads_told new) a.text ended reads, refl, λ e. absurd cc) c.tell.ensures.same c.tell.ensures.line

pub returns-clause-leaves : goal.returns-clause-leaves
returns-clause-leaves g c =
    let old = contents_told (g.F.Files.store c.args.files.now) in
    let new = contents_told (g.F.Files.store c.assemble_file-ended.new.files) in
    asm_leaves old new (g.F.Files.write_faults c.args.files.now, g.F.Files.write_faults c.assemble_file-ended.new.files) (asm_view c.args.request.now) c.assemble_file-ended.result c.assemble_file-ended.ensures.answer

pub returns-clause-memory : goal.returns-clause-memory
returns-clause-memory g c = λ out outs memory.
    let a = asm_view c.args.request.now in
    let old = g.F.Files.store c.args.files.now in
    let new = g.F.Files.store c.assemble_file-ended.new.files in
    let faults : ℕ × ℕ = (g.F.Files.write_faults c.args.files.now, g.F.Files.write_faults c.assemble_file-ended.new.files) in
    could_front (RequestAnswers (Some (Asm a)) old new faults out out) (CountsFor (Some (Asm a)) (g.F.Files.write_faults c.args.files.now) (g.F.Files.write_faults c.assemble_file-ended.new.files) outs outs) c.as_bytes.result.now 0
    (g.E.Sink.taken c.args.err.now) (g.E.Sink.taken c.tell.new.err) c.assemble_file-ended.result (g.F.Files.read_faults c.args.files.now) (g.F.Files.read_faults c.assemble_file-ended.new.files)
    (c.assemble_file-ended.ensures.answer, c.assemble_file-ended.ensures.reads, refl, λ e. c.as_bytes.ensures.value)
    c.assemble_file-ended.ensures.read_fault (refl, c.assemble_file-ended.ensures.write_fault) (c.tell.ensures.memory memory)
