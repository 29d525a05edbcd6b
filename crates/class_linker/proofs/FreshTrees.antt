-- The tree of a loaded class is that of the class file that is found for its name.
use Rattle.std.proofs.Common.{◌≡◌, ℕ, zero, suc, List, [], ◌∷◌, slice_get, Option, Some, None, subst, ◌∙◌}
use Rattle.jsa_files.specs.Store.{Store}
use Rattle.loader_rules.specs.Lists.{FolderLists}
use Rattle.class_tree.specs.declared.tree.ClassTree.{ClassTree}
use Rattle.class_record.specs.Files.{RunFiles}
use Rattle.class_record.specs.Facts.{Facts, name_at}
use Rattle.loaded_classes.specs.Table.{ClassTable}
use Rattle.class_linker.specs.declared.readings.Reading.{Reading}
use Rattle.class_linker.specs.Fresh.{FreshView}
use Rattle.class_linker.specs.Rights.{ForFiles, IsRight, AreTreesOf, tree_of, files_in}

tree_at : (p : RunFiles) (fs : List Facts) (ts : List ClassTree) (id : ℕ) (tree : ClassTree) → AreTreesOf p fs ts → slice_get ts id ≡ Some tree → tree_of p (name_at fs id) ≡ Some tree
tree_at p [] [] id tree h at = absurd cc
tree_at p [] (t ∷ ts) id tree h at = absurd h
tree_at p (f ∷ fs) [] id tree h at = absurd h
tree_at p (f ∷ fs) (t ∷ ts) zero tree h at = h.0 ∙ at
tree_at p (f ∷ fs) (t ∷ ts) (suc id) tree h at = tree_at p fs ts id tree h.1 at

told : (store : Option Store) (folders : FolderLists) (rs : List Reading) (t : ClassTable) (id : ℕ) (tree : ClassTree) → ForFiles store folders (λ p. IsRight p rs t) → slice_get t.trees id ≡ Some tree
    → ForFiles store folders (λ p. tree_of p (name_at t.classes id) ≡ Some tree)
told None folders rs t id tree right at = tt
told (Some store) folders rs t id tree right at = tree_at (files_in store folders) t.classes t.trees id tree right.trees at

pub tree_told : {F : Type 0} (store : F → Option Store) (inside was : FreshView F) (id : ℕ) (tree : ClassTree) → inside ≡ was
    → ForFiles (store inside.files) inside.folders (λ p. IsRight p inside.readings inside.loaded) → slice_get inside.loaded.trees id ≡ Some tree
    → ForFiles (store was.files) was.folders (λ p. tree_of p (name_at was.loaded.classes id) ≡ Some tree)
tree_told {F} store inside was id tree same right at =
    subst (λ (s : FreshView F). ForFiles (store s.files) s.folders (λ p. tree_of p (name_at s.loaded.classes id) ≡ Some tree)) same
    (told (store inside.files) inside.folders inside.readings inside.loaded id tree right at)
