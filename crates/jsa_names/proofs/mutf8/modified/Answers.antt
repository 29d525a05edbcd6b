use Rattle.std.proofs.Common.{◌≡◌, ◌∙◌, ap, sym, map-id}
use Rattle.std.specs.List.{flat_map}
use Rattle.std.proofs.lemmas.Iterator.{YieldsList-from_chars}
use Rattle.std.proofs.lemmas.Iterator.Consumers.{YieldsList-end}
use Rattle.jsa_names.specs.Texts.{units_of}
use Rattle.jsa_names.specs.Mutf8.{char_bytes, modified}
use Rattle.jsa_names.proofs.CharUnits.{modified_read}
use Rattle.jsa_names.proofs.mutf8.modified.Goals as goal

pub returns : goal.returns
returns c =
    let done = YieldsList-end (YieldsList-from_chars c.args.text.now c.utf8.text cc) c.loop-c.yielded _ c.loop-c.yielded_by _ _ c.in-None.is c.next.ensures.steps in
    let whole : c.loop-c.out ≡ modified c.args.text.now = c.loop-c.invariant ∙ ap (λ cs. flat_map char_bytes cs) (sym (map-id c.loop-c.yielded) ∙ done.0) in
    record { bytes = whole; units = ap units_of whole ∙ modified_read c.args.text.now c.utf8.text }
