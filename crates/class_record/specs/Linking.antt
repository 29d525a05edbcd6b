-- Linking a class (JVMS 5.4, 5.4.1): what comes of it, and which loadings it begins and completes.
use Rattle.std.specs.Prelude.{ℕ, ◌+◌, zero, suc, List, Option, Some, None}
use Rattle.std.specs.FinMap.{len}
use Rattle.loader_rules.specs.declared.loader.Loader.TheVariants.{App}
use Rattle.class_record.specs.declared.fault.JavaFault.{JavaFault}
use Rattle.class_record.specs.Files.{Name, RunFiles}
use Rattle.class_record.specs.declared.bases.Base.{Base}
use Rattle.class_record.specs.Trees.{bases_of}
use Rattle.class_record.specs.Loading.{Outcome, nothing, and_then, each, FoundClass, class_of, order_after, begun_after}

-- One level of linking, over what links the classes that this one is based on: its superclass is linked, then its direct
-- superinterfaces in order, then the class itself is verified. A class that isn't there has nothing to link: only classes
-- that load are linked.
module _ (deeper : Name → Outcome) (verifies : FoundClass → Outcome) where
  abbrev pub links : Option FoundClass → Outcome
  links None = nothing
  links (Some c) = and_then (each (λ (base : Base). deeper base.name) (bases_of c.tree)) (verifies c)

-- The verification of a class: the loads that its questions make, and the fault that it finds. No class is verified yet:
-- each one is Ok.
abbrev pub verification : RunFiles → FoundClass → Outcome
verification p c = nothing

-- Linking where at most so many classes stand one above the other.
unfoldable pub link : ℕ → RunFiles → Name → Outcome
link zero p name = nothing
link (suc room) p name = links (link room p) (verification p) (class_of p App name)

-- the link of a class that loads
unfoldable pub link_of : RunFiles → Name → Outcome
link_of p name = link (len p.contents + 1) p name

-- Ok, or the throwable
abbrev pub LinkResult : RunFiles → Name → Option JavaFault
LinkResult p name = (link_of p name).fault

-- the load order after the link of a class
abbrev pub Links : RunFiles → Name → List Name → List Name
Links p name order = order_after order (link_of p name).events

-- the begun names after it: the loads that verification makes are begun as others are
abbrev pub LinkBegins : RunFiles → Name → List Name → List Name
LinkBegins p name begun = begun_after begun (link_of p name).events
