use Rattle.std.proofs.Common.{◌∙◌, ap, sym, subst, List, Some, ◌≡◌}
use Rattle.indexmap.proofs.CallerLemmas.{insert_entry-new}
use Rattle.class_asm.specs.Labels.{Label, labels_in, with_label}
use Rattle.class_asm.proofs.MapLabels.{there, put, unknown}
use Rattle.class_asm.proofs.labels.Labels.add.Goals as goal

pub returns-then-contains_key : goal.returns-then-contains_key
returns-then-contains_key c =
    subst (λ (ls : List Label). Some (with_label ls c.args.name.now c.args.place) ≡ Some ls) c.self.view_is
    (ap (λ (ls : List Label). Some ls) (there c.args.name.now c.args.place c.self.inside.places.entries c.contains_key.result c.contains_key.ensures c.if-contains_key.true))

pub returns : goal.returns
returns c =
    subst (λ (ls : List Label). Some (with_label ls c.args.name.now c.args.place) ≡ Some (labels_in c.insert.new.self.entries)) c.self.view_is
    (ap (λ (ls : List Label). Some ls) (put c.args.name.now c.args.place c.self.inside.places.entries c.in_ok-name.name c.contains_key.result c.in_ok-name.ensures.items c.contains_key.ensures c.if-contains_key.false
    ∙ sym (ap labels_in (c.in_ok-insert.ensures.entries ∙ insert_entry-new _ c.self.inside.places c.in_ok-name.name c.args.place (unknown c.args.name.now c.self.inside.places.entries c.in_ok-name.name c.contains_key.result c.in_ok-name.ensures.items c.contains_key.ensures c.if-contains_key.false)))))
