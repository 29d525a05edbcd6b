use Rattle.std.proofs.Common.{sym, subst}
use Rattle.jsa_files.specs.Listing.{Ascend, AllEndInClass}
use Rattle.jsa_files.proofs.ClassNames.{gathered_more, gathered_all, ascend_behind, ascend_texts, classes_behind}
use Rattle.jsa_files.proofs.listing.names_behind.Goals as goal

pub loop-path-preserved : goal.loop-path-preserved
loop-path-preserved g c = gathered_more c.args.front.now c.loop-path.names c.push_behind.new.names _ c.loop-path.path-iterator c.next.new.self c.in-Some.path.now c.deref.result.now c.deref.ensures c.in-Some.ensures.steps c.in_ok-push_behind.ensures c.loop-path.invariant

pub returns-clause-order : goal.returns-clause-order
returns-clause-order g c =
    let is = gathered_all c.args.front.now c.loop-path.names _ c.loop-path.path-iterator c.in-None.ensures.steps.0 c.loop-path.invariant in
    subst Ascend (sym is) (ascend_behind c.args.front.now _ (ascend_texts _ c.keys-path-items.ensures.ordered))

pub returns-clause-classes : goal.returns-clause-classes
returns-clause-classes g c =
    let is = gathered_all c.args.front.now c.loop-path.names _ c.loop-path.path-iterator c.in-None.ensures.steps.0 c.loop-path.invariant in
    subst AllEndInClass (sym is) (classes_behind c.args.front.now _)
