-- The classes that a run has loaded, as contracts see them.
use Rattle.std.specs.Prelude.{ℕ, List, [], ◌∷◌, ◌++◌, length, replicate, Bool, true, false, Option, Some, None, slice_get, slice_set}
use Rattle.loader_rules.specs.declared.loader.Loader.{Loader}
use Rattle.class_tree.specs.declared.tree.ClassTree.{ClassTree}
use Rattle.class_tree.specs.ClassNames.{sup_name}
use Rattle.class_record.specs.Facts.{Facts}
use Rattle.class_record.specs.Worlds.{World}
use Rattle.class_record.specs.Ancestors.{newest}
use Rattle.class_record.specs.Built.{size_of_super}
use Rattle.class_record.specs.Records.{facts_of}

-- for each class in load order, what is known of it, its class file, whether it is linked, and its cache words
pub record ClassTable : Type 0 where
  pub classes : List Facts
  pub trees : List ClassTree
  pub linked : List Bool
  pub words : List (List ℕ)

abbrev pub empty_table : ClassTable
empty_table = record { classes = []; trees = []; linked = []; words = [] }

-- the facts of a class that is loaded next
abbrev pub next_facts : Loader → ℕ → ClassTree → List Facts → Facts
next_facts loader folder tree classes = facts_of loader folder (size_of_super (newest classes) (sup_name tree)) tree

-- The class that is loaded next isn't linked, and no cache word of it is set.
abbrev pub added : Loader → ℕ → ClassTree → ClassTable → ClassTable
added loader folder tree t = record {
  classes = t.classes ++ next_facts loader folder tree t.classes ∷ [];
  trees = t.trees ++ tree ∷ [];
  linked = t.linked ++ false ∷ [];
  words = t.words ++ replicate (length tree.pool) 0 ∷ [];
}

abbrev pub or_false : Option Bool → Bool
or_false None = false
or_false (Some b) = b

-- whether the class with a number is linked: not past the last class
abbrev pub linked_at : List Bool → ℕ → Bool
linked_at linked id = or_false (slice_get linked id)

abbrev pub or_zero : Option ℕ → ℕ
or_zero None = 0
or_zero (Some n) = n

abbrev pub or_none : Option (List ℕ) → List ℕ
or_none None = []
or_none (Some ws) = ws

-- the cache words of the class with a number
abbrev pub row_at : List (List ℕ) → ℕ → List ℕ
row_at words id = or_none (slice_get words id)

-- a cache word: 0 past the last class and past the last index
abbrev pub word_at : List (List ℕ) → ℕ → ℕ → ℕ
word_at words id k = or_zero (slice_get (row_at words id) k)

-- ---- what the calls leave

abbrev pub with_link : ℕ → ClassTable → ClassTable
with_link id t = record { classes = t.classes; trees = t.trees; linked = slice_set t.linked id true; words = t.words }

abbrev pub with_word : ℕ → ℕ → ℕ → ClassTable → ClassTable
with_word id k value t = record { classes = t.classes; trees = t.trees; linked = t.linked; words = slice_set t.words id (slice_set (row_at t.words id) k value) }

-- a world that tells no files
abbrev pub no_world : World
no_world = record { folders = record { boot = []; platform = []; app = [] }; contents = None }
