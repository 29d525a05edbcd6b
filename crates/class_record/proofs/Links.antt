-- A link does nothing yet, and so it is one level of linking over itself.
use Rattle.std.proofs.Common.{◌≡◌, ℕ, zero, suc, ◌+◌, List, [], ◌∷◌, Option, Some, None, refl, sym, ap, ◌∙◌}
use Rattle.std.specs.FinMap.{len}
use Rattle.loader_rules.specs.declared.loader.Loader.TheVariants.{App}
use Rattle.class_record.specs.declared.bases.Base.{Base}
use Rattle.class_record.specs.Files.{Name, RunFiles}
use Rattle.class_record.specs.Trees.{bases_of}
use Rattle.class_record.specs.Loading.{Outcome, FoundClass, nothing, and_then, each, class_of}
use Rattle.class_record.specs.Linking.{verification, links, link, link_of}
use Rattle.class_record.specs.Laws.{LinksByLevels}

each_nothing : (one : Base → Outcome) → ((base : Base) → one base ≡ nothing) → (bases : List Base) → each one bases ≡ nothing
each_nothing one h [] = refl
each_nothing one h (b ∷ bases) = ap (λ (o : Outcome). and_then o (each one bases)) (h b) ∙ ap (and_then nothing) (each_nothing one h bases)

class_links : (deeper : Name → Outcome) (p : RunFiles) → ((name : Name) → deeper name ≡ nothing) → (found : Option FoundClass) → links deeper (verification p) found ≡ nothing
class_links deeper p h None = refl
class_links deeper p h (Some c) = ap (λ (o : Outcome). and_then o nothing) (each_nothing (λ (base : Base). deeper base.name) (λ base. h base.name) (bases_of c.tree))

links_nothing : (room : ℕ) (p : RunFiles) (name : Name) → link room p name ≡ nothing
unfolding link
links_nothing zero p name = refl
links_nothing (suc room) p name = class_links (link room p) p (links_nothing room p) (class_of p App name)

-- No class is verified yet, so nothing is loaded and nothing fails.
pub link_is_nothing : (p : RunFiles) (name : Name) → link_of p name ≡ nothing
unfolding link_of
link_is_nothing p name = links_nothing (len p.contents + 1) p name

pub links_by_levels : LinksByLevels
links_by_levels p name loads = link_is_nothing p name ∙ sym (class_links (link_of p) p (link_is_nothing p) (class_of p App name))
