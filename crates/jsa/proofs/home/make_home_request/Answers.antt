use Rattle.std.proofs.Common.{ℕ, List, [], Some, refl, subst, inl, inr}
use Rattle.boot_library.specs.Home.{HomeAnswers}
use Rattle.jsa_files.specs.Told.{contents_told}
use Rattle.command_words.specs.Grammar.{MakeHome}
use Rattle.jsa.specs.Command.{RequestAnswers}
use Rattle.jsa.proofs.Tells.{told}
use Rattle.jsa.proofs.HomeRuns.{made_leaves}
use Rattle.jsa.proofs.home.make_home_request.Goals as goal

pub returns-clause-answer : goal.returns-clause-answer
returns-clause-answer g c = λ out.
    let old = g.F.Files.store c.args.files.now in
    let new = g.F.Files.store c.write_home-made.new.files in
    let counts : ℕ × ℕ = (g.F.Files.write_faults c.args.files.now, g.F.Files.write_faults c.write_home-made.new.files) in
    let made = c.write_home-made.result in
    let answer = subst (λ (text : List ℕ). HomeAnswers (contents_told old) (contents_told new) counts c.args.folder.now text made) c.boot_text.ensures.value c.write_home-made.ensures.answer in
    told (RequestAnswers (Some (MakeHome c.args.folder.now)) old new counts out out) [] 0 (g.E.Sink.taken c.args.err.now) (g.E.Sink.taken c.tell.new.err) (g.E.Sink.faults c.args.err.now) (g.E.Sink.faults c.tell.new.err) (g.E.Sink.can_fail c.args.err.now)
    c.end_of_home.result c.tell.result
    (record { made = made; answer = answer; is = inl c.end_of_home.ensures }, c.write_home-made.ensures.reads, refl)
    (record { made = made; answer = answer; is = inr refl }, c.write_home-made.ensures.reads, refl)
    c.tell.ensures.same c.tell.ensures.line

pub returns-clause-leaves : goal.returns-clause-leaves
returns-clause-leaves g c =
    made_leaves (contents_told (g.F.Files.store c.args.files.now)) (contents_told (g.F.Files.store c.write_home-made.new.files)) (g.F.Files.write_faults c.args.files.now, g.F.Files.write_faults c.write_home-made.new.files) c.args.folder.now
    c.write_home-made.result
    (subst (λ (text : List ℕ). HomeAnswers (contents_told (g.F.Files.store c.args.files.now)) (contents_told (g.F.Files.store c.write_home-made.new.files)) (g.F.Files.write_faults c.args.files.now, g.F.Files.write_faults c.write_home-made.new.files) c.args.folder.now text c.write_home-made.result) c.boot_text.ensures.value c.write_home-made.ensures.answer)
