use Rattle.std.proofs.Common.{◌≡◌, ℕ, length, Some, true, false, subst, slice_get, refl, sym, ◌∙◌, arith}
use Rattle.std.proofs.lemmas.Option.{slice_get_read}
use Rattle.class_record.specs.Facts.{names_of}
use Rattle.loaded_classes.specs.Table.{ClassTable}
use Rattle.loaded_classes.specs.Held.{facts_list, sees_class, known_at}
use Rattle.loaded_classes.proofs.Known.{known_within, sees_held, one_place}
use Rattle.loaded_classes.proofs.table.LoadedClasses.seen.Goals as goal

pub index-requires : goal.index-requires
index-requires c =
    let within = known_within c.self.inside.places c.self.inside.classes.items c.args.name.now c.in-Some.id c.self.invariant.known (sym c.in-Some.ensures) in
    omega (arith, within, c.self.inside.classes.ok.0)

pub returns-then-sees : goal.returns-then-sees
returns-then-sees c =
    let held = c.self.inside.classes.items in
    let id = c.in-Some.id in
    let known : known_at c.self.inside.places c.args.name.now ≡ Some id = sym c.in-Some.ensures in
    let within = known_within c.self.inside.places held c.args.name.now id c.self.invariant.known known in
    let is = slice_get_read held (length held) id c.index.result.now refl within c.index.ensures in
    subst (λ (t : ClassTable). (slice_get (names_of t.classes) id ≡ Some c.args.name.now) × (sees_class c.args.from (slice_get t.classes id) ≡ true)) c.self.view_is
    (c.self.invariant.known.found c.args.name.now id known, sees_held held id c.index.result.now c.args.from true is (sym c.sees.ensures ∙ c.if-sees.true))

pub returns-else-sees : goal.returns-else-sees
returns-else-sees c =
    let held = c.self.inside.classes.items in
    let id = c.in-Some.id in
    let known : known_at c.self.inside.places c.args.name.now ≡ Some id = sym c.in-Some.ensures in
    let within = known_within c.self.inside.places held c.args.name.now id c.self.invariant.known known in
    let is = slice_get_read held (length held) id c.index.result.now refl within c.index.ensures in
    let sees : sees_class c.args.from (slice_get (facts_list held) id) ≡ false = sees_held held id c.index.result.now c.args.from false is (sym c.sees.ensures ∙ c.if-sees.false) in (
      refl,
      subst (λ (t : ClassTable). (k : ℕ) → slice_get (names_of t.classes) k ≡ Some c.args.name.now → sees_class c.args.from (slice_get t.classes k) ≡ false) c.self.view_is
          (λ k there. subst (λ (j : ℕ). sees_class c.args.from (slice_get (facts_list held) j) ≡ false)
          (one_place c.self.inside.places (names_of (facts_list held)) c.args.name.now id k c.self.invariant.known (c.self.invariant.known.found c.args.name.now id known) there) sees),
    )
