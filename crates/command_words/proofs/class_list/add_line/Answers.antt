use Rattle.std.proofs.Common.{map, ap, ◌∙◌}
use Rattle.command_words.specs.ClassList.{added}
use Rattle.command_words.proofs.Names.{key_added}
use Rattle.command_words.proofs.class_list.add_line.Goals as goal

pub returns-in-Ok : goal.returns-in-Ok
returns-in-Ok c =
    let keys = c.args.names.now.keys in
    ap (map (λ k. k.now)) c.in-Ok.ensures.keys ∙ key_added keys c.in-Some.name ∙ ap (added (map (λ k. k.now) keys)) (ap (λ o. o) c.in-Some.ensures)
