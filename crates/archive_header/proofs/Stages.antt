-- The folders of the loaders, one loader after the other.
use Rattle.std.proofs.Common.{◌≡◌, ℕ, List, [], ◌∷◌, ◌++◌, Option, Some, None, Result, Ok, Err, refl, sym, ap, subst, ◌∙◌}
use Rattle.std.specs.Prelude.{⊤}
use Rattle.std.specs.Option.{option_or}
use Rattle.jsa_files.specs.declared.fault.FilesFault.{FilesFault}
use Rattle.jsa_files.specs.declared.fault.FilesFault.TheVariants.{Failed, TooLarge, TooMany, Memory}
use Rattle.jsa_files.specs.Store.{Store, Contents}
use Rattle.jsa_files.specs.Listing.{class_names}
use Rattle.loader_rules.specs.Lists.{FolderLists}
use Rattle.archive_header.specs.declared.folders.Folder.{Folder}
use Rattle.archive_header.specs.Manifests.{one_now, limit_of, limit_from, limit_met, names_to, MakesAsTold}
use Rattle.archive_header.specs.Making.{IfTold, Answers, names_from}
use Rattle.archive_header.proofs.Told.{told_then, fault_then}

abbrev pub IsOne : ℕ → ℕ → List (List ℕ) → Contents → Option Folder → Type 0
IsOne before now paths c folder = (folder ≡ one_now c paths) × (now ≡ names_from c before paths)

or_or : (a b d : Option FilesFault) → option_or a (option_or b d) ≡ option_or (option_or a b) d
or_or None b d = refl
or_or (Some e) b d = refl

limit_append : (c : Contents) (before : ℕ) (a b : List (List ℕ)) → limit_from c before (a ++ b) ≡ option_or (limit_from c before a) (limit_from c (names_from c before a) b)
limit_append c before [] b = refl
limit_append c before (x ∷ a) b =
    let first = limit_of c before x (class_names c x) in
    let n = names_to c before x in
    ap (λ l. option_or first l) (limit_append c n a b) ∙ or_or first (limit_from c n a) (limit_from c (names_from c n a) b)

-- No limit was met so far, and so many names were counted.
abbrev pub Passed : Contents → List (List ℕ) → ℕ → Type 0
Passed c paths now = (limit_from c 0 paths ≡ None) × (now ≡ names_from c 0 paths)

met_behind : (c : Contents) (a b : List (List ℕ)) (now : ℕ) (met : Option FilesFault) → Passed c a now → limit_from c now b ≡ met → limit_from c 0 (a ++ b) ≡ met
met_behind c a b now met p h =
    limit_append c 0 a b ∙ ap (λ l. option_or l (limit_from c (names_from c 0 a) b)) p.0 ∙ ap (λ (n : ℕ). limit_from c n b) (sym p.1) ∙ h

met_before : (c : Contents) (a b : List (List ℕ)) (e : FilesFault) → limit_from c 0 a ≡ Some e → limit_from c 0 (a ++ b) ≡ Some e
met_before c a b e h = limit_append c 0 a b ∙ ap (λ l. option_or l (limit_from c (names_from c 0 a) b)) h

makes_fault : {A : Type 0} (o : Option Store) (lists : FolderLists) (Is : Contents → A → Type 0) (e : FilesFault) → Answers {A = A} o (λ c. limit_met c lists) Is (Err e) → MakesAsTold o lists (Err e)
makes_fault None lists Is e h = tt
makes_fault (Some s) lists Is Failed h = tt
makes_fault (Some s) lists Is (TooLarge size) h = h
makes_fault (Some s) lists Is (TooMany count) h = h
makes_fault (Some s) lists Is Memory h = tt

abbrev pub OneOf : Option Store → ℕ → ℕ → List (List ℕ) → Result (Option Folder) FilesFault → Type 0
OneOf o before now paths r = Answers o (λ c. limit_from c before paths) (IsOne before now paths) r

pub one_moved : (o p : Option Store) (before now : ℕ) (a b : List (List ℕ)) (r : Result (Option Folder) FilesFault) → p ≡ o → a ≡ b → OneOf p before now a r → OneOf o before now b r
one_moved o p before now a b r same is h = subst (λ (q : Option Store). OneOf q before now b r) same (subst (λ (ps : List (List ℕ)). OneOf p before now ps r) is h)

pub boot_stops : (o : Option Store) (lists : FolderLists) (now : ℕ) (e : FilesFault) → OneOf o 0 now lists.boot (Err e) → MakesAsTold o lists (Err e)
boot_stops o lists now e h =
    makes_fault o lists (IsOne 0 now lists.boot) e
    (fault_then o (λ c. limit_from c 0 lists.boot) (λ c. limit_met c lists) (IsOne 0 now lists.boot) (IsOne 0 now lists.boot) (λ c. ⊤)
    (λ c p f q. met_before c (lists.boot ++ lists.platform) lists.app f (met_before c lists.boot lists.platform f q)) (nothing o) e h)
  where
    nothing : (o : Option Store) → IfTold o (λ c. ⊤)
    nothing None = tt
    nothing (Some s) = tt

boot_passed : (o : Option Store) (lists : FolderLists) (now : ℕ) (boot : Option Folder) → OneOf o 0 now lists.boot (Ok boot) → IfTold o (λ c. Passed c lists.boot now)
boot_passed o lists now boot h = told_then o (λ c. (limit_from c 0 lists.boot ≡ None) × IsOne 0 now lists.boot c boot) (λ c. Passed c lists.boot now) (λ c p. (p.0, p.1.1)) h

pub platform_stops : (o : Option Store) (lists : FolderLists) (first now : ℕ) (boot : Option Folder) (e : FilesFault) → OneOf o 0 first lists.boot (Ok boot) → OneOf o first now lists.platform (Err e) → MakesAsTold o lists (Err e)
platform_stops o lists first now boot e h k =
    makes_fault o lists (IsOne first now lists.platform) e
    (fault_then o (λ c. limit_from c first lists.platform) (λ c. limit_met c lists) (IsOne first now lists.platform) (IsOne first now lists.platform) (λ c. Passed c lists.boot first)
    (λ c p f q. met_before c (lists.boot ++ lists.platform) lists.app f (met_behind c lists.boot lists.platform first (Some f) p q)) (boot_passed o lists first boot h) e k)
