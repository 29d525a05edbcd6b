-- What is so of told files goes through a call on the store, which keeps them.
use Rattle.std.proofs.Common.{◌≡◌, List, Option, Some, None, sym, ◌∙◌, ap, subst}
use Rattle.std.specs.Prelude.{Result, Ok, Err, OnOk}
use Rattle.jsa_files.specs.Store.{Store, Contents}
use Rattle.loader_rules.specs.Lists.{FolderLists}
use Rattle.class_record.specs.declared.fault.JavaFault.{JavaFault}
use Rattle.class_record.specs.declared.fault.ClassesFault.{ClassesFault}
use Rattle.class_record.specs.Files.{RunFiles}
use Rattle.loaded_classes.specs.Table.{ClassTable}
use Rattle.class_linker.specs.declared.under_way.Frame.{Frame}
use Rattle.class_linker.specs.Rights.{ForFiles, IsPathOf, files_in}
use Rattle.class_linker.specs.Steps.{ForStores, KeepsFiles}
use Rattle.class_linker.specs.Finishing.{IsPathOnOk}

files_same : (folders : FolderLists) (a b : Contents) → a ≡ b → ◌≡◌ {A = RunFiles} (record { contents = a; folders = folders }) (record { contents = b; folders = folders })
files_same folders a b h = ap (λ (c : Contents). let p : RunFiles = record { contents = c; folders = folders } in p) h

kept_files : (s t : Store) (folders : FolderLists) → t.contents ≡ s.contents → files_in t folders ≡ files_in s folders
kept_files s t folders h = files_same folders t.contents s.contents h

-- ---- a call that doesn't ask the store

pub same_stores : (o : Option Store) (folders : FolderLists) (A B : RunFiles → Type 0) (Q : RunFiles → Store → Store → Type 0)
    → ((p : RunFiles) (s : Store) → A p → B p → Q p s s) → ForFiles o folders A → ForFiles o folders B → ForStores o o folders Q
same_stores None folders A B Q f a b = tt
same_stores (Some s) folders A B Q f a b = f (files_in s folders) s a b

pub same_files : (o : Option Store) (folders : FolderLists) (A B C : RunFiles → Type 0)
    → ((p : RunFiles) → A p → B p → C p) → ForFiles o folders A → ForFiles o folders B → ForFiles o folders C
same_files None folders A B C f a b = tt
same_files (Some s) folders A B C f a b = f (files_in s folders) a b

-- ---- a call that keeps the files

pub stores_told : (o n : Option Store) (folders : FolderLists) (P Q : RunFiles → Store → Store → Type 0) (A B : RunFiles → Type 0) → KeepsFiles o n
    → ((p : RunFiles) (s t : Store) → P p s t → A p → B p → Q p s t) → ForStores o n folders P → ForFiles o folders A → ForFiles n folders B → ForStores o n folders Q
stores_told None n folders P Q A B k f h a b = tt
stores_told (Some s) None folders P Q A B k f h a b = tt
stores_told (Some s) (Some t) folders P Q A B k f h a b = f (files_in s folders) s t h a (subst B (kept_files s t folders k) b)

pub files_told : (o n : Option Store) (folders : FolderLists) (P : RunFiles → Store → Store → Type 0) (A B C : RunFiles → Type 0) → KeepsFiles o n
    → ((p : RunFiles) (s t : Store) → P p s t → A p → B p → C p) → ForStores o n folders P → ForFiles o folders A → ForFiles n folders B → ForFiles n folders C
files_told o None folders P A B C k f h a b = tt
files_told None (Some t) folders P A B C k f h a b = absurd cc
files_told (Some s) (Some t) folders P A B C k f h a b =
    subst C (sym (kept_files s t folders k)) (f (files_in s folders) s t h a (subst B (kept_files s t folders k) b))

-- ---- one call after another

pub stores_both : (o m n : Option Store) (folders : FolderLists) (P Q R : RunFiles → Store → Store → Type 0) → KeepsFiles o m → KeepsFiles m n
    → ((p : RunFiles) (s t u : Store) → P p s t → Q p t u → R p s u) → ForStores o m folders P → ForStores m n folders Q → ForStores o n folders R
stores_both None m n folders P Q R k l f h i = tt
stores_both (Some s) m None folders P Q R k l f h i = tt
stores_both (Some s) None (Some u) folders P Q R k l f h i = absurd k
stores_both (Some s) (Some t) (Some u) folders P Q R k l f h i =
    f (files_in s folders) s t u h (subst (λ (p : RunFiles). Q p t u) (kept_files s t folders k) i)

pub keeps_both : (o m n : Option Store) → KeepsFiles o m → KeepsFiles m n → KeepsFiles o n
keeps_both None None n k l = l
keeps_both None (Some t) n k l = absurd cc
keeps_both (Some s) None n k l = absurd k
keeps_both (Some s) (Some t) None k l = l
keeps_both (Some s) (Some t) (Some u) k l = l ∙ k

-- the same of the path, where the call was Ok
pub ok_paths : (o : Option Store) (folders : FolderLists) (A B : RunFiles → Type 0) (t : ClassTable) (now : List Frame) (r : Result (Option JavaFault) ClassesFault)
    → ((p : RunFiles) → A p → B p → IsPathOnOk p t now r) → ForFiles o folders A → ForFiles o folders B → OnOk r (ForFiles o folders (λ p. IsPathOf p t now))
ok_paths o folders A B t now (Ok fault) f a b = same_files o folders A B (λ p. IsPathOf p t now) f a b
ok_paths o folders A B t now (Err fault) f a b = tt
