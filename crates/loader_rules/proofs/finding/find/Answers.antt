use Rattle.std.proofs.Common.{◌≡◌, ◌∙◌, [], Some, None, Ok, sym, ap, subst}
use Rattle.std.specs.Option.{option_map}
use Rattle.std.specs.String.{string_bytes}
use Rattle.jsa_names.specs.Paths.{path_of}
use Rattle.loader_rules.specs.Finding.{files_of, folders_of}
use Rattle.loader_rules.specs.Searching.{Searches, files_at}
use Rattle.loader_rules.specs.declared.loader.Loader.{Loader}
use Rattle.loader_rules.proofs.Tails.{by_tail, by_nothing, answer_told, store_told}
use Rattle.loader_rules.proofs.finding.find.Given as given
use Rattle.loader_rules.proofs.finding.find.Goals as goal

searched : (g : given.Over) (c : goal.After-drop-tail g) → Searches (g.F.Files.store c.args.files.now) (g.F.Files.store c.find_up_to.new.files) (files_of c.args.paths.now c.args.from c.args.name.now) c.find_up_to.result
searched g c =
    let e : path_of [] c.args.name.now ≡ Some c.deref.result.now = sym c.in-Ok-Some.ensures ∙ ap (option_map string_bytes) c.in-Ok-Some.field-0-is ∙ ap Some (sym c.deref.ensures) in
    by_tail (g.F.Files.store c.args.files.now) (g.F.Files.store c.find_up_to.new.files) c.args.paths.now c.args.from c.args.name.now c.deref.result.now c.find_up_to.result e
    (subst (λ (last : Loader). Searches (g.F.Files.store c.args.files.now) (g.F.Files.store c.find_up_to.new.files) (files_at c.deref.result.now (folders_of c.args.paths.now last)) c.find_up_to.result) c.last_asked.ensures c.find_up_to.ensures.searches)

pub returns-in-Ok-Some-clause-answer : goal.returns-in-Ok-Some-clause-answer
returns-in-Ok-Some-clause-answer g c = answer_told (g.F.Files.store c.args.files.now) c.args.paths.now c.args.from c.args.name.now c.find_up_to.result (searched g c).answer

pub returns-in-Ok-Some-clause-among : goal.returns-in-Ok-Some-clause-among
returns-in-Ok-Some-clause-among g c = (searched g c).among

pub returns-in-Ok-Some-clause-store : goal.returns-in-Ok-Some-clause-store
returns-in-Ok-Some-clause-store g c = (searched g c).store ∙ store_told (g.F.Files.store c.args.files.now) c.args.paths.now c.args.from c.args.name.now c.find_up_to.result

pub returns-in-Ok-None-clause-answer : goal.returns-in-Ok-None-clause-answer
returns-in-Ok-None-clause-answer g c = answer_told (g.F.Files.store c.args.files.now) c.args.paths.now c.args.from c.args.name.now (Ok None) (by_nothing (g.F.Files.store c.args.files.now) c.args.paths.now c.args.from c.args.name.now (sym c.in-Ok-None.ensures ∙ ap (option_map string_bytes) c.in-Ok-None.field-0-is)).answer
