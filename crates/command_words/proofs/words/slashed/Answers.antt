use Rattle.std.proofs.Common.{◌≡◌, List, ℕ, ◌∙◌, ap, sym, map, length, lit<}
use Rattle.std.specs.Prelude.{true}
use Rattle.std.specs.List.{list_all, join_with_byte}
use Rattle.std.proofs.lemmas.List.{map_push}
use Rattle.std.proofs.lemmas.Iterator.Consumers.{YieldsList-so_far, YieldsList-end}
use Rattle.std.proofs.lemmas.Iterator.Splits.{YieldsList-from_str_split}
use Rattle.command_words.specs.Words.{is_segment, segments_of}
use Rattle.command_words.proofs.Segments.{with_segment, front_all, joined}
use Rattle.command_words.proofs.words.slashed.Goals as goal

pub loop-segment-preserved : goal.loop-segment-preserved
loop-segment-preserved c =
    let front = map (λ s. s.now) c.loop-segment.yielded in
    let so_far = YieldsList-so_far (YieldsList-from_str_split 46 c.args.word.now (lit< tt) (cc) (cc) (cc)) c.loop-segment.yielded _ c.loop-segment.yielded_by in
    let sound : list_all is_segment front ≡ true = rw so_far (front_all (length c.loop-segment.yielded) (segments_of c.args.word.now) c.requires) in
    c.in_ok-push_segment.ensures
    ∙ ap (λ (name : List ℕ). with_segment name c.in-Some.segment.now) c.loop-segment.invariant
    ∙ joined front c.in-Some.segment.now sound
    ∙ ap (join_with_byte 47) (sym (map_push (λ s. s.now) c.loop-segment.yielded c.in-Some.segment))

pub returns : goal.returns
returns c =
    let all = YieldsList-end (YieldsList-from_str_split 46 c.args.word.now (lit< tt) (cc) (cc) (cc)) c.loop-segment.yielded _ c.loop-segment.yielded_by _ _ c.in-None.is c.next.ensures.steps in
    c.loop-segment.invariant ∙ ap (join_with_byte 47) all.0
