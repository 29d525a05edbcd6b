use Rattle.std.proofs.Common.{map, ap, sym, ◌∙◌}
use Rattle.command_words.specs.ClassList.{list_lines}
use Rattle.command_words.proofs.Names.{gathered, gathered_all, gathered_more, gathered_end}
use Rattle.command_words.proofs.class_list.distinct_names.Goals as goal

pub loop-line-preserved : goal.loop-line-preserved
loop-line-preserved c =
    let names = map (λ n. n.now) c.loop-line.names.keys in
    ap (λ l. gathered l c.next.new.self) c.in_ok-add_line.ensures
    ∙ gathered_more names c.in-Some.line.now c.next.new.self
    ∙ ap (gathered names) (sym c.in-Some.ensures.steps)
    ∙ c.loop-line.invariant

pub returns : goal.returns
returns c =
    let names = map (λ n. n.now) c.loop-line.names.keys in
    gathered_end names ∙ ap (gathered names) (sym c.in-None.ensures.steps.0) ∙ c.loop-line.invariant ∙ gathered_all (list_lines c.args.bytes.now)
