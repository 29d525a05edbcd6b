-- A link does nothing yet, whatever the files hold.
use Rattle.std.proofs.Common.{◌≡◌, ℕ, Bool, List, [], slice_get, Option, Some, None, Ok, refl, sym, ap, subst, ◌∙◌}
use Rattle.std.proofs.lemmas.List.{append-nil}
use Rattle.jsa_files.specs.Store.{Store}
use Rattle.loader_rules.specs.Lists.{FolderLists}
use Rattle.class_record.specs.Files.{Name, RunFiles}
use Rattle.class_record.specs.Facts.{Facts, names_of}
use Rattle.class_record.specs.Loading.{Outcome}
use Rattle.class_record.proofs.Links.{link_is_nothing}
use Rattle.class_record.specs.Worlds.{ClassWorld, world_of_files, AsTold}
use Rattle.class_record.specs.Calls.{Progress, Leaves, AnswersLink, AreLinked}
use Rattle.class_linker.specs.Fresh.{FreshView, world_in, reads_in}
use Rattle.class_linker.specs.Kept.{names_read}
use Rattle.class_linker.specs.Rights.{files_in}

stays : (w : ClassWorld) (at : Progress) → Leaves w [] at at
stays w at = record { order = refl; begun = refl; reads = sym (append-nil at.reads); limits = refl }

class_answers : (p : RunFiles) (wanted : Option Name) (at : Progress) → AnswersLink (world_of_files p) wanted at at (Ok None)
class_answers p None at = tt
class_answers p (Some name) at =
    let none = link_is_nothing p name in
    (ap (λ (o : Outcome). o.fault) none, subst (λ (o : Outcome). Leaves (world_of_files p) o.events at at) (sym none) (stays (world_of_files p) at))

told : (store : Option Store) (folders : FolderLists) (wanted : Option Name) (at : Progress) → AsTold (world_in store folders) (λ w. AnswersLink w wanted at at (Ok None))
told None folders wanted at = tt
told (Some store) folders wanted at = class_answers (files_in store folders) wanted at

abbrev pub seen : {F : Type 0} → (F → Option Store) → FreshView F → List Facts → Progress
seen store s classes = record { order = names_of classes; begun = names_read s.readings; reads = reads_in (store s.files) }

-- The classes stay, and the link is Ok.
pub link_answers : {F : Type 0} (store : F → Option Store) (inside was : FreshView F) (id : ℕ) (classes : List Facts) → inside ≡ was → classes ≡ inside.loaded.classes
    → AsTold (world_in (store was.files) was.folders) (λ w. AnswersLink w (slice_get (names_of was.loaded.classes) id) (seen store was was.loaded.classes) (seen store inside classes) (Ok None))
link_answers {F} store inside was id classes same kept =
    let after : seen store inside classes ≡ seen store was was.loaded.classes = ap (seen store inside) kept ∙ ap (λ (s : FreshView F). seen store s s.loaded.classes) same in
    subst (λ (at : Progress). AsTold (world_in (store was.files) was.folders) (λ w. AnswersLink w (slice_get (names_of was.loaded.classes) id) (seen store was was.loaded.classes) at (Ok None))) (sym after)
    (told (store was.files) was.folders (slice_get (names_of was.loaded.classes) id) (seen store was was.loaded.classes))

-- Each class that is linked links, since each class does.
pub all_linked : (store : Option Store) (folders : FolderLists) (classes : List Facts) (linked : ℕ → Bool) → AsTold (world_in store folders) (λ w. AreLinked w classes linked)
all_linked None folders classes linked = tt
all_linked (Some store) folders classes linked = λ id name is at. ap (λ (o : Outcome). o.fault) (link_is_nothing (files_in store folders) name)
