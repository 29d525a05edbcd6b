-- What the making of a home answers and writes.
use Rattle.std.specs.Prelude.{◌≡◌, ◌⊎◌, ◌≤◌, ℕ, List, [], ◌∷◌, ◌++◌, length, Option, Some, None, Result, Ok, Err, codes}
use Rattle.jsa_files.specs.Causes.{Rose}
use Rattle.jsa_files.specs.Store.{Contents}
use Rattle.jsa_files.specs.declared.fault.FilesFault.TheVariants as files
use Rattle.class_tree.specs.declared.tree.ClassTree.{ClassTree}
use Rattle.class_tree.specs.WellFormed.{class_name}
use Rattle.class_asm.specs.Assembly.{assembled}
use Rattle.boot_library.specs.declared.text.TheConstants.{BOOT_TEXT}
use Rattle.boot_library.specs.declared.fault.HomeFault.{HomeFault}
use Rattle.boot_library.specs.declared.fault.HomeFault.TheVariants.{Line, Files, Memory}
use Rattle.class_folder.specs.ClassFiles.{File, files_of, HaveFiles, after_files, WritesSome, FailsAt}

-- the text of the boot library, in the language of the assembler
unfoldable pub boot_text : List ℕ
boot_text = BOOT_TEXT.now

-- ---- the files of a home

-- a name and a line feed
abbrev pub name_line : Option (List ℕ) → List ℕ
name_line None = []
name_line (Some name) = name ++ 10 ∷ []

abbrev pub line_of_tree : ClassTree → List ℕ
line_of_tree tree = name_line (class_name tree.pool tree.this)

-- the list of the names of classes, a line each
abbrev pub names_text : List ClassTree → List ℕ
names_text [] = []
names_text (tree ∷ trees) = line_of_tree tree ++ names_text trees

abbrev pub boot_folder : List ℕ → List ℕ
boot_folder dir = dir ++ codes "/boot"

abbrev pub list_file : List ℕ → List ClassTree → File
list_file dir trees = record { path = dir ++ codes "/classlist"; bytes = names_text trees }

-- the file of each class below DIR/boot, in the order of the classes, and then the list
abbrev pub home_files : List ℕ → List ClassTree → List File
home_files dir trees = files_of (boot_folder dir) trees ++ list_file dir trees ∷ []

-- ---- the answer

-- The text stands for these classes.
pub record IsHome (dir text : List ℕ) : Type 0 where
  pub trees : List ClassTree
  pub is : assembled text ≡ Ok trees

-- the files that are to be written
abbrev pub files_asked : {dir text : List ℕ} → IsHome dir text → List File
files_asked {dir = dir} home = home_files dir home.trees

-- The answer of the making of a home, and what a store holds then, if it tells. The count of its writes that failed is given
-- before and now. After Ok the store holds the file of each class and the list, and at every other path what it held. Line comes exactly
-- where the text is outside the grammar, first on that line, unless memory ran out.
abbrev pub HomeAnswers : {T : Type 0} → Option Contents → Option Contents → ℕ × ℕ → List ℕ → List ℕ → Result T HomeFault → Type 0
HomeAnswers old new faults dir text (Ok x) = (home : IsHome dir text) × HaveFiles (boot_folder dir) home.trees × (new ≡ after_files old (files_asked home))
HomeAnswers old new faults dir text (Err (Line number)) = (assembled text ≡ Err number) × (new ≡ old)
HomeAnswers old new faults dir text (Err (Files files.Failed)) = (home : IsHome dir text) × FailsAt old new (files_asked home) × Rose faults.0 faults.1
HomeAnswers old new faults dir text (Err (Files files.Memory)) = (home : IsHome dir text) × WritesSome old new (files_asked home)
HomeAnswers old new faults dir text (Err (Files (files.TooLarge size))) = ⊥
HomeAnswers old new faults dir text (Err (Files (files.TooMany count))) = ⊥
HomeAnswers old new faults dir text (Err Memory) = (new ≡ old) ⊎ ((home : IsHome dir text) × WritesSome old new (files_asked home))

-- The count of a store's writes that failed: it rose where a write failed, and else is as before.
abbrev pub CountsWrites : {T : Type 0} → ℕ → ℕ → Result T HomeFault → Type 0
CountsWrites before now (Ok x) = now ≡ before
CountsWrites before now (Err (Line number)) = now ≡ before
CountsWrites before now (Err (Files files.Failed)) = (before ≤ now) × Rose before now
CountsWrites before now (Err (Files files.Memory)) = now ≡ before
CountsWrites before now (Err (Files (files.TooLarge size))) = now ≡ before
CountsWrites before now (Err (Files (files.TooMany count))) = now ≡ before
CountsWrites before now (Err Memory) = now ≡ before
