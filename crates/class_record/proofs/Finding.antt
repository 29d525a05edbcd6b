-- The file that one loader finds is the one that each loader finds which sees its class.
use Rattle.std.proofs.Common.{◌≡◌, ℕ, ◌+◌, List, [], ◌∷◌, ◌++◌, Option, None, Some, Bool, true, false, cond, is_some, refl, sym, ◌∙◌, ap}
use Rattle.std.specs.Prelude.{if◌then◌else◌}
use Rattle.std.specs.List.{filter_map, cons_option}
use Rattle.std.specs.Option.{option_map, option_or}
use Rattle.std.specs.FinMap.{get}
use Rattle.std.proofs.lemmas.List.Elements.{filter_map-append}
use Rattle.std.proofs.lemmas.List.Folds.{find-append}
use Rattle.jsa_base.specs.Reading.{◌>>=◌}
use Rattle.jsa_files.specs.Store.{Contents}
use Rattle.jsa_names.specs.Paths.{path_of}
use Rattle.loader_rules.specs.declared.loader.Loader.{Loader}
use Rattle.loader_rules.specs.declared.loader.Loader.TheVariants.{Boot, Platform, App}
use Rattle.loader_rules.specs.Lists.{FolderLists}
use Rattle.loader_rules.specs.Finding.{Place, numbered, folders_of, is_java, file_in, first_of}
use Rattle.class_record.specs.Files.{Name, RunFiles, ClassFile, file_at, file_of, sees}

-- the file at a place
abbrev pub file_there : Contents → Option Place → Option ClassFile
file_there contents place = place >>= λ at. option_map (file_at at) (get contents at.path)

-- the place that a loader finds, where its own folders and those of the loaders above it give these
abbrev asked_by : Loader → Option Place → Option Place → Option Place → Option Place
asked_by Boot boot platform app = boot
asked_by Platform boot platform app = option_or boot platform
asked_by App boot platform app = option_or (option_or boot platform) app

-- The place, if there is one, is in a folder of this loader.
abbrev IsOf : Loader → Option Place → Type 0
IsOf loader None = Unit {0}
IsOf loader (Some place) = place.loader ≡ loader

-- ---- the places in the folders of a loader

either_is_of : (loader : Loader) (place : Place) (rest : Option Place) (b : Bool) → place.loader ≡ loader → IsOf loader rest → IsOf loader (cond b (Some place) rest)
either_is_of loader place rest true h k = h
either_is_of loader place rest false h k = k

first_is_of : (contents : Contents) (loader : Loader) (number : ℕ) (files : List Place) (path : Option (List ℕ)) → IsOf loader (first_of contents files)
    → IsOf loader (first_of contents (cons_option (option_map (λ path. record { loader = loader; folder = number; path = path }) path) files))
first_is_of contents loader number files None k = k
first_is_of contents loader number files (Some path) k =
    either_is_of loader (record { loader = loader; folder = number; path = path }) (first_of contents files) (is_some (get contents path)) refl k

-- the first file in the folders of a loader
abbrev own : Contents → Name → Loader → ℕ → List (List ℕ) → Option Place
own contents name loader first folders = first_of contents (filter_map (file_in name) (numbered loader first folders))

own_is_of : (contents : Contents) (name : Name) (loader : Loader) (first : ℕ) (folders : List (List ℕ)) → IsOf loader (own contents name loader first folders)
own_is_of contents name loader first [] = tt
own_is_of contents name loader first (f ∷ fs) =
    first_is_of contents loader first (filter_map (file_in name) (numbered loader (first + 1) fs)) (path_of f name) (own_is_of contents name loader (first + 1) fs)

-- ---- what one loader finds, and what another one does

loader_of : (f g : ClassFile) (loader : Loader) → Some f ≡ Some g → f.loader ≡ loader → g.loader ≡ loader
loader_of f g loader e h = let i : f ≡ g = cc in cc

sees_it : (contents : Contents) (from loader : Loader) (x : Place) (o : Option (List ℕ)) (file : ClassFile) → x.loader ≡ loader → sees from loader ≡ true
    → option_map (file_at x) o ≡ Some file → option_map (file_at x) o ≡ (if sees from file.loader then Some file else None)
sees_it contents from loader x None file h s e = absurd (cc)
sees_it contents from loader x (Some bytes) file h s e =
    let same : file.loader ≡ loader = loader_of (file_at x bytes) file loader e h in
    e ∙ sym (ap (λ (l : Loader). if sees from l then Some file else None) same ∙ ap (λ (b : Bool). if b then Some file else None) s)

misses_it : (contents : Contents) (from loader : Loader) (x : Place) (o : Option (List ℕ)) (file : ClassFile) → x.loader ≡ loader → sees from loader ≡ false
    → option_map (file_at x) o ≡ Some file → None ≡ (if sees from file.loader then Some file else None)
misses_it contents from loader x None file h s e = absurd (cc)
misses_it contents from loader x (Some bytes) file h s e =
    let same : file.loader ≡ loader = loader_of (file_at x bytes) file loader e h in
    sym (ap (λ (l : Loader). if sees from l then Some file else None) same ∙ ap (λ (b : Bool). if b then Some file else None) s)

seen : (contents : Contents) (from : Loader) (boot platform app : Option Place) (file : ClassFile) → IsOf Boot boot → IsOf Platform platform → IsOf App app
    → file_there contents (asked_by App boot platform app) ≡ Some file → file_there contents (asked_by from boot platform app) ≡ (if sees from file.loader then Some file else None)
seen contents from None None None file b p a e = absurd (cc)
seen contents Boot (Some x) platform app file b p a e = sees_it contents Boot Boot x (get contents x.path) file b refl e
seen contents Platform (Some x) platform app file b p a e = sees_it contents Platform Boot x (get contents x.path) file b refl e
seen contents App (Some x) platform app file b p a e = sees_it contents App Boot x (get contents x.path) file b refl e
seen contents Boot None (Some x) app file b p a e = misses_it contents Boot Platform x (get contents x.path) file p refl e
seen contents Platform None (Some x) app file b p a e = sees_it contents Platform Platform x (get contents x.path) file p refl e
seen contents App None (Some x) app file b p a e = sees_it contents App Platform x (get contents x.path) file p refl e
seen contents Boot None None (Some x) file b p a e = misses_it contents Boot App x (get contents x.path) file a refl e
seen contents Platform None None (Some x) file b p a e = misses_it contents Platform App x (get contents x.path) file a refl e
seen contents App None None (Some x) file b p a e = sees_it contents App App x (get contents x.path) file a refl e

seen_alone : (contents : Contents) (from : Loader) (boot : Option Place) (file : ClassFile) → IsOf Boot boot
    → file_there contents boot ≡ Some file → file_there contents boot ≡ (if sees from file.loader then Some file else None)
seen_alone contents from None file b e = absurd (cc)
seen_alone contents from (Some x) file b e = sees_it contents from Boot x (get contents x.path) file b refl e

kept : (contents : Contents) (from : Loader) (boot platform app : Option Place) (file : ClassFile)
    → file_there contents (asked_by from boot platform app) ≡ Some file → file_there contents (asked_by App boot platform app) ≡ Some file
kept contents App boot platform app file e = e
kept contents Boot (Some x) platform app file e = e
kept contents Boot None platform app file e = absurd (cc)
kept contents Platform (Some x) platform app file e = e
kept contents Platform None (Some x) app file e = e
kept contents Platform None None app file e = absurd (cc)

-- ---- the folders of the three

module _ (contents : Contents) (lists : FolderLists) (name : Name) where
  abbrev in_boot : Option Place
  in_boot = own contents name Boot 0 lists.boot

  abbrev in_platform : Option Place
  in_platform = own contents name Platform 1 lists.platform

  abbrev in_app : Option Place
  in_app = own contents name App 2 lists.app

  abbrev in_all : Loader → Option Place
  in_all last = first_of contents (filter_map (file_in name) (folders_of lists last))

  more : (front behind : List Place) → first_of contents (filter_map (file_in name) (front ++ behind)) ≡ option_or (first_of contents (filter_map (file_in name) front)) (first_of contents (filter_map (file_in name) behind))
  more front behind = ap (first_of contents) (filter_map-append (file_in name) front behind) ∙ find-append (λ file. is_some (get contents file.path)) (filter_map (file_in name) front) (filter_map (file_in name) behind)

  all_asked : (last : Loader) → in_all last ≡ asked_by last in_boot in_platform in_app
  all_asked Boot = refl
  all_asked Platform = more (numbered Boot 0 lists.boot) (numbered Platform 1 lists.platform)
  all_asked App = more (numbered Boot 0 lists.boot ++ numbered Platform 1 lists.platform) (numbered App 2 lists.app)
      ∙ ap (λ (o : Option Place). option_or o in_app) (more (numbered Boot 0 lists.boot) (numbered Platform 1 lists.platform))

  seen_by : (java : Bool) (from : Loader) (file : ClassFile) → file_there contents (in_all (if java then Boot else App)) ≡ Some file
      → file_there contents (in_all (if java then Boot else from)) ≡ (if sees from file.loader then Some file else None)
  seen_by true from file e = seen_alone contents from in_boot file (own_is_of contents name Boot 0 lists.boot) e
  seen_by false from file e = ap (file_there contents) (all_asked from)
      ∙ seen contents from in_boot in_platform in_app file (own_is_of contents name Boot 0 lists.boot) (own_is_of contents name Platform 1 lists.platform) (own_is_of contents name App 2 lists.app)
      (sym (ap (file_there contents) (all_asked App)) ∙ e)

  kept_by : (java : Bool) (from : Loader) (file : ClassFile) → file_there contents (in_all (if java then Boot else from)) ≡ Some file → file_there contents (in_all (if java then Boot else App)) ≡ Some file
  kept_by true from file e = e
  kept_by false from file e = ap (file_there contents) (all_asked App)
      ∙ kept contents from in_boot in_platform in_app file (sym (ap (file_there contents) (all_asked from)) ∙ e)

-- A file that one loader finds is the one that the application loader finds.
pub file_from_app : (p : RunFiles) (from : Loader) (name : Name) (file : ClassFile) → file_of p from name ≡ Some file → file_of p App name ≡ Some file
file_from_app p from name file e = kept_by p.contents p.folders name (is_java name) from file e

-- A loader finds the file of a name exactly where it sees the loader in whose folder the file is.
pub file_seen : (p : RunFiles) (from : Loader) (name : Name) (file : ClassFile) → file_of p App name ≡ Some file → file_of p from name ≡ (if sees from file.loader then Some file else None)
file_seen p from name file e = seen_by p.contents p.folders name (is_java name) from file e
