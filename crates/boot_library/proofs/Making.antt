-- What the making of a home answers, from what its steps answer.
use Rattle.std.proofs.Common.{◌≡◌, ◌∙◌, ℕ, List, [], ◌∷◌, ◌++◌, Option, Some, None, sym, ap}
use Rattle.std.specs.Prelude.{Ok, Err}
use Rattle.std.specs.List.{AllByRecursion}
use Rattle.std.specs.Option.{option_and_then}
use Rattle.std.proofs.lemmas.List.{append_assoc}
use Rattle.jsa_files.specs.declared.fault.FilesFault.{FilesFault}
use Rattle.jsa_files.specs.declared.fault.FilesFault.TheVariants as answers
use Rattle.jsa_files.specs.Store.{Contents}
use Rattle.jsa_names.specs.Paths as names
use Rattle.class_tree.specs.declared.tree.ClassTree.{ClassTree}
use Rattle.class_tree.specs.WellFormed.{class_name}
use Rattle.class_asm.specs.Assembly.{assembled}
use Rattle.class_asm.specs.Laws.{HasPath}
use Rattle.class_asm.proofs.Named.{all_named}
use Rattle.class_folder.specs.ClassFiles.{HasFile, HaveFiles, after_files, WritesFiles}
use Rattle.class_folder.proofs.ClassFiles.{each_file}
use Rattle.boot_library.specs.declared.fault.HomeFault.TheVariants.{Files}
use Rattle.boot_library.specs.Home.{line_of_tree, names_text, boot_folder, home_files, IsHome, HomeAnswers}

-- ---- the list

-- The line of a class was added, and the lines of the others follow.
pub listed_more : (list : List ℕ) (rest : List ClassTree) (tree : ClassTree) (more : List ClassTree) → rest ≡ tree ∷ more → (list ++ line_of_tree tree) ++ names_text more ≡ list ++ names_text rest
listed_more list rest tree more e = append_assoc list (line_of_tree tree) (names_text more) ∙ sym (ap (λ (l : List ClassTree). list ++ names_text l) e)

-- ---- each class of a text has a file

named : (folder : List ℕ) (name : Option (List ℕ)) → HasPath folder name → (path : List ℕ) × (option_and_then (names.path_of folder) name ≡ Some path)
named folder None h = absurd h
named folder (Some name) h = h

have_paths : (folder : List ℕ) (trees : List ClassTree) → AllByRecursion (λ t. HasPath folder (class_name t.pool t.this)) trees → AllByRecursion (HasFile folder) trees
have_paths folder [] all = tt
have_paths folder (t ∷ trees) all = (named folder (class_name t.pool t.this) all.0, have_paths folder trees all.1)

pub text_files : (text folder : List ℕ) (trees : List ClassTree) → assembled text ≡ Ok trees → HaveFiles folder trees
text_files text folder trees is = each_file folder trees (have_paths folder trees (all_named text folder trees is))

-- ---- the answer

-- The files of a text's classes were written.
pub home_written : (old new : Option Contents) (faults : ℕ × ℕ) (dir text : List ℕ) (trees : List ClassTree) → assembled text ≡ Ok trees → new ≡ after_files old (home_files dir trees) → HomeAnswers {T = Unit {0}} old new faults dir text (Ok tt)
home_written old new faults dir text trees is h = (record { trees = trees; is = is }, text_files text (boot_folder dir) trees is, h)

-- They weren't all written, and why not.
pub home_unwritten : (old new : Option Contents) (faults : ℕ × ℕ) (dir text : List ℕ) (trees : List ClassTree) (fault : FilesFault) → assembled text ≡ Ok trees → WritesFiles {T = Unit {0}} old new faults (home_files dir trees) (Err fault)
    → HomeAnswers {T = Unit {0}} old new faults dir text (Err (Files fault))
home_unwritten old new faults dir text trees answers.Failed is h = (record { trees = trees; is = is }, h.0, h.1)
home_unwritten old new faults dir text trees answers.Memory is h = (record { trees = trees; is = is }, h)
home_unwritten old new faults dir text trees (answers.TooLarge size) is h = absurd h
home_unwritten old new faults dir text trees (answers.TooMany count) is h = absurd h
