use Rattle.std.proofs.Common.{◌≡◌, ◌+◌, ◌<◌, ℕ, List, Some, length, cond, sym, ap, subst, ◌∙◌}
use Rattle.std.specs.Str.{bytes_eq}
use Rattle.class_record.specs.Files.{Name}
use Rattle.class_tree.specs.ClassNames.{own_name}
use Rattle.class_record.specs.Facts.{names_of}
use Rattle.loaded_classes.specs.declared.held.HeldClass.{HeldClass}
use Rattle.loaded_classes.specs.Table.{added}
use Rattle.loaded_classes.specs.Held.{known_at, facts_list, table_of}
use Rattle.loaded_classes.specs.Bases.{base_id, size_at}
use Rattle.loaded_classes.specs.Pushing.{IsLookedUp}
use Rattle.loaded_classes.proofs.NewNames.{fresh_unknown}
use Rattle.loaded_classes.proofs.PushKeeps.{bases_held, fresh_held, few_held, count_held, room_for_fields, kept_more, kept_still, table_more}
use Rattle.loaded_classes.proofs.table.LoadedClasses.push.Goals as goal

pub prepare-requires-clause-room : goal.prepare-requires-clause-room
prepare-requires-clause-room c =
    let s = c.self.inside in
    let held = s.classes.items in
    subst (λ (hs : List HeldClass). size_at hs (base_id s.places c.args.tree.pool c.args.tree.sup) + length c.args.tree.fields < 4294967296) (sym (c.as_slice.ensures.value ∙ c.make_rooms.ensures.classes))
    (room_for_fields held s.linked.items s.words.items s.places c.self.invariant c.args.tree
    (bases_held held s.linked.items s.words.items c.args.self.now c.self.view_is c.args.tree c.requires.bases)
    (few_held held s.linked.items s.words.items c.args.self.now c.self.view_is c.requires.few) c.requires.short)

pub prepare-requires-clause-fresh : goal.prepare-requires-clause-fresh
prepare-requires-clause-fresh c =
    let s = c.self.inside in
    let held = s.classes.items in
    fresh_unknown s.places (names_of (facts_list held)) c.self.invariant.known (own_name c.args.tree)
    (fresh_held held s.linked.items s.words.items c.args.self.now c.self.view_is c.args.tree c.requires.fresh)

pub invariant_of-self-in_default-prepare : goal.invariant_of-self-in_default-prepare
invariant_of-self-in_default-prepare c =
    let s = c.self.inside in
    rw (c.make_rooms.ensures.classes, c.make_rooms.ensures.linked, c.make_rooms.ensures.words)
    (kept_still s.classes.items s.linked.items s.words.items s.places c.prepare.new.places c.self.invariant c.in_default-prepare.ensures.err)

pub invariant_of-self-2 : goal.invariant_of-self-2
invariant_of-self-2 c =
    let s = c.self.inside in
    let held = s.classes.items in
    let id_is : c.len-id.result ≡ length held = c.len-id.ensures ∙ s.classes.ok.0 in
    let few = few_held held s.linked.items s.words.items c.args.self.now c.self.view_is c.requires.few in
    let notes = λ (name : Name). c.in-Ok-prepare.ensures.ok name
    ∙ ap (λ (k : ℕ). cond (bytes_eq (own_name c.args.tree) name) (Some k) (known_at s.places name)) id_is in
    rw (c.put.ensures.items, c.make_rooms.ensures.classes, c.held_class.ensures, c.put-2.ensures.items, c.make_rooms.ensures.linked, c.put-3.ensures.items, c.make_rooms.ensures.words, c.in-Ok-prepare.ensures.words)
    (kept_more held s.linked.items s.words.items s.places c.self.invariant c.args.tree
    (bases_held held s.linked.items s.words.items c.args.self.now c.self.view_is c.args.tree c.requires.bases)
    c.args.loader c.args.folder c.in-Ok-prepare.up (subst (λ (hs : List HeldClass). IsLookedUp hs s.places c.args.tree c.in-Ok-prepare.up) (c.as_slice.ensures.value ∙ c.make_rooms.ensures.classes) c.in-Ok-prepare.ensures.up)
    (fresh_held held s.linked.items s.words.items c.args.self.now c.self.view_is c.args.tree c.requires.fresh) c.requires.short c.prepare.new.places few notes)

pub returns-clause-ok : goal.returns-clause-ok
returns-clause-ok c =
    let s = c.self.inside in
    let held = s.classes.items in
    let looked = subst (λ (hs : List HeldClass). IsLookedUp hs s.places c.args.tree c.in-Ok-prepare.up) (c.as_slice.ensures.value ∙ c.make_rooms.ensures.classes) c.in-Ok-prepare.ensures.up in
    let is : table_of c.put.new.list.items c.put-2.new.list.items c.put-3.new.list.items ≡ added c.args.loader c.args.folder c.args.tree c.args.self.now =
    rw (c.put.ensures.items, c.make_rooms.ensures.classes, c.held_class.ensures, c.put-2.ensures.items, c.make_rooms.ensures.linked, c.put-3.ensures.items, c.make_rooms.ensures.words, c.in-Ok-prepare.ensures.words)
    (table_more held s.linked.items s.words.items s.places c.self.invariant c.args.tree
    (bases_held held s.linked.items s.words.items c.args.self.now c.self.view_is c.args.tree c.requires.bases)
    c.args.loader c.args.folder c.in-Ok-prepare.up looked
    (fresh_held held s.linked.items s.words.items c.args.self.now c.self.view_is c.args.tree c.requires.fresh) c.requires.short
    ∙ ap (added c.args.loader c.args.folder c.args.tree) c.self.view_is) in
    (c.len-id.ensures ∙ s.classes.ok.0 ∙ count_held held s.linked.items s.words.items c.args.self.now c.self.view_is, is)
