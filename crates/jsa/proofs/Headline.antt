-- A run from an archive that a dump wrote is the run from the class's file.
use Rattle.std.proofs.Common.{◌≡◌, ◌≢◌, ◌⊎◌, inl, inr, arith, ℕ, suc, List, [], ◌∷◌, ◌++◌, length, drop, Bool, true, false, ◌&&◌, ◌||◌, cond, is_some, codes, Option, Some, None, Ok, Err, refl, sym, ap, subst, ◌∙◌, append_assoc}
use Rattle.std.specs.Prelude.{Result, nat_eq, Contains}
use Rattle.std.specs.FinMap.{get, keys, contains_key-keys, nat_cmp-IsAntisymmetric, slice_cmp-IsAntisymmetric}
use Rattle.std.specs.List.{cons_option, filter_map, list_any, starts_with}
use Rattle.std.specs.Option.{option_map}
use Rattle.std.specs.Ordering.{nat_cmp, eq_by_cmp, is_eq}
use Rattle.std.specs.Cmp.Lexicographic.{slice_cmp}
use Rattle.std.specs.declared.cmp.Ordering.{Ordering}
use Rattle.std.specs.declared.cmp.Ordering.TheVariants.{Less, Equal, Greater}
use Rattle.std.specs.Str.{bytes_eq}
use Rattle.std.proofs.lemmas.Bool.Decides.{Decides-eqb}
use Rattle.std.proofs.lemmas.List.{drop_at}
use Rattle.std.proofs.lemmas.Slice.Eq.{bytes_eq-Decides, starts_is, ends_is}
use Rattle.sha2.specs.Sha256.{sha256}
use Rattle.jsa_base.proofs.Codecs.{some_is}
use Rattle.jsa_files.specs.Store.{Contents, Store}
use Rattle.jsa_files.specs.Listing.{ends_in_class, name_behind, class_names}
use Rattle.jsa_names.specs.Paths as names
use Rattle.archive_header.specs.declared.folders.ListedFile.{ListedFile}
use Rattle.archive_header.specs.declared.folders.Folder.{Folder}
use Rattle.archive_header.specs.declared.folders.Folders.{Folders}
use Rattle.archive_header.specs.declared.refuse.Refuse.{Refuse}
use Rattle.archive_header.specs.declared.refuse.Refuse.TheVariants as refusals
use Rattle.archive_header.specs.Folders.{IsFirstChanged}
use Rattle.archive_header.specs.Manifests.{path_in, listed, listed_at, folder_now, manifest_now}
use Rattle.plain_classes.specs.declared.class.PlainClass.{PlainClass}
use Rattle.plain_classes.specs.Records.{class_in}
use Rattle.plain_classes.specs.Archives.{IsArchive}
use Rattle.plain_classes.proofs.Archives.{one_is}
use Rattle.archive_mapper.specs.Mapping.{Maps}
use Rattle.archive_mapper.proofs.Stages.{as_one}
use Rattle.jsa.specs.declared.ended.Ended.{Ended}
use Rattle.jsa.specs.declared.ended.Ended.TheVariants.{Exit, Usage, BadText, NoBoot, NoMain, Missing, NotShared, Stopped, Unsupported, ReadFault, WriteFault, Limit, Memory}
use Rattle.command_words.specs.Words.{internal_name, RunRequest, class_path}
use Rattle.command_words.specs.Grammar.{request_of, Request, Run, Dump, Asm, HomeRun, MakeHome}
use Rattle.jsa_files.specs.Told.{reads_told}
use Rattle.jsa.specs.Runs.{FileAnswers}
use Rattle.jsa.specs.Archived.{lists_of, archive_bytes, Opened, OpensNot, TakesFrom, Taken, MappedAnswers, ArchiveAnswers}
use Rattle.jsa.specs.Dumps.{IsInPath, IsInFolder, HasClasses}
use Rattle.jsa.specs.Command.{RequestAnswers}
use Rattle.jsa.specs.Headline.{WrittenByDump, IsClassFile, Clashfree, HasChanged, AsFromFile, ArchiveKeeps, RunsAsFromFile}
use Rattle.command_words.proofs.Ascii.{ascii_path}
use Rattle.command_words.proofs.RunNames.{request_name}

-- ---- what is in a list

-- x is one of these
abbrev In : {X : Type 0} → X → List X → Type 0
In x [] = ⊥
In x (y ∷ ys) = (x ≡ y) ⊎ In x ys

contains_of : {X : Type 0} (xs : List X) (x : X) → In x xs → Contains xs x
contains_of [] x h = absurd h
contains_of (y ∷ ys) x (inl e) = (0, omega arith, sym e)
contains_of (y ∷ ys) x (inr h) = let c = contains_of ys x h in (suc c.0, omega (arith, c.1), c.2)

in_cons : {Y : Type 0} (o : Option Y) (ys : List Y) (y : Y) → In y ys → In y (cons_option o ys)
in_cons None ys y h = h
in_cons (Some z) ys y h = inr h

-- what is made of an item is in what is made of all
in_filter : {X Y : Type 0} (make : X → Option Y) (xs : List X) (x : X) (y : Y) → In x xs → make x ≡ Some y → In y (filter_map make xs)
in_filter make [] x y h is = absurd h
in_filter {X} {Y} make (z ∷ xs) x y (inl e) is =
    let here : make z ≡ Some y = sym (ap make e) ∙ is in
    subst (λ (o : Option Y). In y (cons_option o (filter_map make xs))) (sym here) (inl refl)
in_filter make (z ∷ xs) x y (inr h) is = in_cons (make z) (filter_map make xs) y (in_filter make xs x y h is)

-- what is in it is made of an item
record IsMadeOf {X Y : Type 0} (make : X → Option Y) (xs : List X) (y : Y) : Type 0 where
  item : X
  among : In item xs
  is : make item ≡ Some y

from_filter : {X Y : Type 0} (make : X → Option Y) (xs : List X) (y : Y) → In y (filter_map make xs) → IsMadeOf make xs y
from_filter make [] y h = absurd h
from_filter {X} {Y} make (z ∷ xs) y h = by (make z) refl h (from_filter make xs y)
  where
    more : IsMadeOf make xs y → IsMadeOf make (z ∷ xs) y
    more m = record { item = m.item; among = inr m.among; is = m.is }

    by : (o : Option Y) → make z ≡ o → In y (cons_option o (filter_map make xs)) → (In y (filter_map make xs) → IsMadeOf make xs y) → IsMadeOf make (z ∷ xs) y
    by None e k rest = more (rest k)
    by (Some w) e (inl same) rest = record { item = z; among = inl refl; is = e ∙ ap (λ (v : Y). Some v) (sym same) }
    by (Some w) e (inr k) rest = more (rest k)

-- ---- the paths of a store

order_equal : (o : Ordering) → is_eq o ≡ true → o ≡ Equal
order_equal Less e = absurd cc
order_equal Equal e = refl
order_equal Greater e = absurd cc

same_path : (a b : List ℕ) → eq_by_cmp (slice_cmp nat_cmp) a b ≡ true → a ≡ b
same_path a b e = slice_cmp-IsAntisymmetric nat_cmp-IsAntisymmetric a b (order_equal (slice_cmp nat_cmp a b) e)

in_any : (path : List ℕ) (paths : List (List ℕ)) → list_any (eq_by_cmp (slice_cmp nat_cmp) path) paths ≡ true → In path paths
in_any path [] h = absurd cc
in_any path (p ∷ paths) h = by (eq_by_cmp (slice_cmp nat_cmp) path p) refl h (in_any path paths)
  where
    by : (t : Bool) → eq_by_cmp (slice_cmp nat_cmp) path p ≡ t → (t || list_any (eq_by_cmp (slice_cmp nat_cmp) path) paths) ≡ true → (list_any (eq_by_cmp (slice_cmp nat_cmp) path) paths ≡ true → In path paths) → In path (p ∷ paths)
    by true e k rest = inl (same_path path p e)
    by false e k rest = inr (rest k)

-- A path that holds something is one of the store's.
in_keys : (contents : Contents) (path bytes : List ℕ) → get contents path ≡ Some bytes → In path (keys contents)
in_keys contents path bytes at = in_any path (keys contents) (sym (contains_key-keys contents path) ∙ ap (λ (o : Option (List ℕ)). is_some o) at)

-- ---- the class files of a folder

behind_front : (front name : List ℕ) → ends_in_class name ≡ true → name_behind front (front ++ name) ≡ Some name
behind_front front name ends =
    let rest : drop (length front) (front ++ name) ≡ name = drop_at front name (length front) refl in
    let begins : starts_with nat_eq (front ++ name) front ≡ true = (starts_is Decides-eqb (front ++ name) front (starts_with nat_eq (front ++ name) front) refl).1 name refl in
    let rest_ends : ends_in_class (drop (length front) (front ++ name)) ≡ true = ap ends_in_class rest ∙ ends in
    ap (λ (b : Bool). cond (b && ends_in_class (drop (length front) (front ++ name))) (Some (drop (length front) (front ++ name))) None) begins
    ∙ ap (λ (b : Bool). cond b (Some (drop (length front) (front ++ name))) None) rest_ends
    ∙ ap (λ (n : List ℕ). Some n) rest

ends_so : (name : List ℕ) → ends_in_class (name ++ codes ".class") ≡ true
ends_so name = (ends_is Decides-eqb (name ++ codes ".class") (codes ".class") (ends_in_class (name ++ codes ".class")) refl).1 name refl

-- the name of a class's file in its folder
abbrev file_of : List ℕ → List ℕ
file_of name = name ++ codes ".class"

file_path : (folder name : List ℕ) → folder ++ codes "/" ++ name ++ codes ".class" ≡ path_in folder (file_of name)
file_path folder name = append_assoc (folder ++ codes "/") name (codes ".class")

-- A class's file that is there is one of its folder's.
in_folder : (contents : Contents) (folder name bytes : List ℕ) → get contents (path_in folder (file_of name)) ≡ Some bytes → In (file_of name) (class_names contents folder)
in_folder contents folder name bytes at =
    in_filter (name_behind (folder ++ codes "/")) (keys contents) (path_in folder (file_of name)) (file_of name) (in_keys contents (path_in folder (file_of name)) bytes at) (behind_front (folder ++ codes "/") (file_of name) (ends_so name))

-- what a listed file says of the store
record ListedAs (contents : Contents) (folder file bytes : List ℕ) : Type 0 where
  now : List ℕ
  at : get contents (path_in folder file) ≡ Some now
  among : In file (class_names contents folder)
  size : length now ≡ length bytes
  digest : sha256 now ≡ sha256 bytes

listed_as : (contents : Contents) (folder file bytes : List ℕ) → IsMadeOf (listed_at contents folder) (class_names contents folder) (listed file bytes) → ListedAs contents folder file bytes
listed_as contents folder file bytes m = by (get contents (path_in folder m.item)) refl m.is
  where
    by : (o : Option (List ℕ)) → get contents (path_in folder m.item) ≡ o → option_map (listed m.item) o ≡ Some (listed file bytes) → ListedAs contents folder file bytes
    by None at e = absurd cc
    by (Some now) at e =
        let same : listed m.item now ≡ listed file bytes = some_is (listed m.item now) (listed file bytes) e in
        let name : m.item ≡ file = ap (λ (f : ListedFile). f.name) same in
        record {
          now = now;
          at = subst (λ (n : List ℕ). get contents (path_in folder n) ≡ Some now) name at;
          among = subst (λ (n : List ℕ). In n (class_names contents folder)) name m.among;
          size = ap (λ (f : ListedFile). f.size) same;
          digest = ap (λ (f : ListedFile). f.sha256) same;
        }

-- A file that was there is there with the same size and digest, where the folder's list is the same.
still_listed : (past now : Contents) (folder name bytes : List ℕ) → folder_now now folder ≡ folder_now past folder → get past (path_in folder (file_of name)) ≡ Some bytes → ListedAs now folder (file_of name) bytes
still_listed past now folder name bytes same at =
    let among = in_folder past folder name bytes at in
    let was : In (listed (file_of name) bytes) (filter_map (listed_at past folder) (class_names past folder)) =
    in_filter (listed_at past folder) (class_names past folder) (file_of name) (listed (file_of name) bytes) among (ap (λ (o : Option (List ℕ)). option_map (listed (file_of name)) o) at) in
    let is : In (listed (file_of name) bytes) (filter_map (listed_at now folder) (class_names now folder)) = subst (λ (f : Folder). In (listed (file_of name) bytes) f.files) (sym same) was in
    listed_as now folder (file_of name) bytes (from_filter (listed_at now folder) (class_names now folder) (listed (file_of name) bytes) is)

-- What was there is there, where no two files clash.
still_there : (past now : Contents) (folder name bytes : List ℕ) → folder_now now folder ≡ folder_now past folder → Clashfree past folder now folder → get past (path_in folder (file_of name)) ≡ Some bytes
    → get now (path_in folder (file_of name)) ≡ Some bytes
still_there past now folder name bytes same clash at =
    let l = still_listed past now folder name bytes same at in
    let was : IsClassFile past folder bytes = record { name = file_of name; listed = contains_of (class_names past folder) (file_of name) (in_folder past folder name bytes at); at = at } in
    let is : IsClassFile now folder l.now = record { name = file_of name; listed = contains_of (class_names now folder) (file_of name) l.among; at = l.at } in
    l.at ∙ ap (λ (b : List ℕ). Some b) (clash l.now bytes (inr is) (inl was) l.size l.digest)

-- the folder of a run and that of a dump are one, with the same files
one_folder : (past now : Contents) (dumped folder : List ℕ) → IsFirstChanged (manifest_now past (lists_of dumped)) (manifest_now now (lists_of folder)) None → folder_now now folder ≡ folder_now past dumped
one_folder past now dumped folder same = some_is (folder_now now folder) (folder_now past dumped) ((same 2).0 (folder_now past dumped) refl)

-- ---- the class that an archive holds

-- The first class of a name was in the name's file.
class_was : (past : Contents) (folder : List ℕ) (listed_names : List (List ℕ)) (classes : List PlainClass) (name held : List ℕ) → HasClasses (Some past) folder listed_names classes → class_in classes name ≡ Some held
    → IsInFolder (Some past) folder name (Some held)
class_was past folder [] [] name held h is = absurd cc
class_was past folder [] (c ∷ classes) name held h is = absurd h
class_was past folder (n ∷ listed_names) [] name held h is = absurd h
class_was past folder (n ∷ listed_names) (c ∷ classes) name held h is = by (bytes_eq c.name name) refl is (class_was past folder listed_names classes name held h.1)
  where
    by : (t : Bool) → bytes_eq c.name name ≡ t → cond t (Some c.bytes) (class_in classes name) ≡ Some held → (class_in classes name ≡ Some held → IsInFolder (Some past) folder name (Some held)) → IsInFolder (Some past) folder name (Some held)
    by true e k rest =
        let same : n ≡ name = sym h.0.named ∙ (bytes_eq-Decides c.name name).0 e in
        subst (λ (o : Option (List ℕ)). IsInFolder (Some past) folder name o) k (subst (λ (m : List ℕ). IsInFolder (Some past) folder m (Some c.bytes)) same h.0.at)
    by false e k rest = rest k

at_path : (past : Contents) (folder name held path : List ℕ) → names.path_of folder name ≡ Some path → IsInFolder (Some past) folder name (Some held) → get past path ≡ Some held
at_path past folder name held path e h = subst (λ (o : Option (List ℕ)). IsInPath (Some past) o (Some held)) e h

-- What the archive holds is what is at the path now.
held_is_there : (past now : Contents) (dumped : List ℕ) (r : RunRequest) (word : List ℕ) (listed_names : List (List ℕ)) (classes : List PlainClass) (held : List ℕ) → internal_name word ≡ Some r.name
    → HasClasses (Some past) dumped listed_names classes → IsFirstChanged (manifest_now past (lists_of dumped)) (manifest_now now (lists_of r.folder)) None → Clashfree past dumped now r.folder → class_in classes r.name ≡ Some held → get now (class_path r) ≡ Some held
held_is_there past now dumped r word listed_names classes held named each unchanged clash is =
    let same : folder_now now r.folder ≡ folder_now past dumped = one_folder past now dumped r.folder unchanged in
    let folder : dumped ≡ r.folder = sym (ap (λ (f : Folder). f.path) same) in
    let was : get past (dumped ++ codes "/" ++ r.name ++ codes ".class") ≡ Some held = at_path past dumped r.name held (dumped ++ codes "/" ++ r.name ++ codes ".class") (ascii_path word r.name dumped named) (class_was past dumped listed_names classes r.name held each is) in
    let at : get past (path_in dumped (file_of r.name)) ≡ Some held = sym (ap (get past) (file_path dumped r.name)) ∙ was in
    ap (get now) (file_path r.folder r.name)
    ∙ still_there past now r.folder r.name held
    (subst (λ (f : List ℕ). folder_now now r.folder ≡ folder_now past f) folder same)
    (subst (λ (f : List ℕ). Clashfree past f now r.folder) folder clash)
    (subst (λ (f : List ℕ). get past (path_in f (file_of r.name)) ≡ Some held) folder at)

-- ---- an archive that a dump wrote

-- what it keeps of the folder, and its classes
abbrev kept_by : {now : Contents} {archive : List ℕ} → WrittenByDump now archive → Folders
kept_by w = manifest_now w.past (lists_of w.dump.folder)

abbrev classes_by : {now : Contents} {archive : List ℕ} → WrittenByDump now archive → List PlainClass
classes_by w = w.dumped.gathered.classes

-- The bytes are that archive, and this is the manifest of the run's folder.
record IsDumped (now : Contents) (r : RunRequest) {archive : List ℕ} (w : WrittenByDump now archive) (bytes : List ℕ) (current : Folders) : Type 0 where
  is : IsArchive bytes (classes_by w) (kept_by w)
  made : current ≡ manifest_now now (lists_of r.folder)

is_dumped : (now : Contents) (r : RunRequest) (archive : List ℕ) (w : WrittenByDump now archive) (o : Opened (Some now) r.folder archive) → IsDumped now r w (archive_bytes o.read.found) o.now
is_dumped now r archive w o =
    let bytes : w.dumped.archive ≡ archive_bytes o.read.found = ap archive_bytes (sym w.at ∙ o.read.at) in
    let kept : IsArchive w.dumped.archive (classes_by w) (kept_by w) = subst (λ (f : Folders). IsArchive w.dumped.archive (classes_by w) f) w.dumped.gathered.prepared.made.1 w.dumped.is in
    record { is = subst (λ (b : List ℕ). IsArchive b (classes_by w) (kept_by w)) bytes kept; made = o.made.1 }

-- ---- why it is refused

abbrev Answer : Type 0
Answer = Result (List PlainClass) Refuse

refuse_is : (a b : Refuse) → ◌≡◌ {A = Answer} (Err a) (Err b) → a ≡ b
refuse_is a b e = cc

err_ok : (refuse : Refuse) (classes : List PlainClass) → ◌≡◌ {A = Answer} (Err refuse) (Ok classes) → ⊥
err_ok refuse classes e = cc

ok_want : (classes : List PlainClass) → ◌≡◌ {A = Answer} (Ok classes) (Err refusals.Memory) → ⊥
ok_want classes e = cc

-- An archive is refused for no reason that lies in its bytes.
not_refused : (bytes : List ℕ) (classes : List PlainClass) (kept : Folders) (refuse : Refuse) → IsArchive bytes classes kept → refuse ≢ refusals.Memory → Maps bytes None (Err refuse) → ⊥
not_refused bytes classes kept refuse is known why =
    err_ok refuse classes (as_one bytes None (Err refuse) (Ok classes) why (record { kept = kept; archive = is; unchanged = tt }) (λ e. known (refuse_is refuse refusals.Memory e)) (ok_want classes))

module _ (now : Contents) (r : RunRequest) (archive : List ℕ) (w : WrittenByDump now archive) (bytes : List ℕ) (current : Folders) (d : IsDumped now r w bytes current) where
  has_changed : (number : ℕ) → r.on ≡ true → Maps bytes (Some current) (Err (refusals.Path number)) → HasChanged now r w (refusals.Path number)
  has_changed number on why =
      let there : why.current ≡ manifest_now now (lists_of r.folder) = sym (some_is current why.current why.known) ∙ d.made in
      let kept : IsFirstChanged (kept_by w) why.current (Some number) =
      subst (λ (f : Folders). IsFirstChanged f why.current (Some number)) (one_is bytes why.classes (classes_by w) why.kept (kept_by w) why.archive d.is).1 why.changed in
      record { on = on; number = number; cause = refl; first = subst (λ (f : Folders). IsFirstChanged (kept_by w) f (Some number)) there kept }

  changed : (refuse : Refuse) → r.on ≡ true → refuse ≢ refusals.Memory → Maps bytes (Some current) (Err refuse) → HasChanged now r w refuse
  changed refusals.Short on known why = absurd (not_refused bytes (classes_by w) (kept_by w) refusals.Short d.is known why)
  changed refusals.Magic on known why = absurd (not_refused bytes (classes_by w) (kept_by w) refusals.Magic d.is known why)
  changed (refusals.Version format) on known why = absurd (not_refused bytes (classes_by w) (kept_by w) (refusals.Version format) d.is known why)
  changed (refusals.Digest kept found) on known why = absurd (not_refused bytes (classes_by w) (kept_by w) (refusals.Digest kept found) d.is known why)
  changed (refusals.Layer kept found) on known why = absurd (not_refused bytes (classes_by w) (kept_by w) (refusals.Layer kept found) d.is known why)
  changed refusals.Malformed on known why = absurd (not_refused bytes (classes_by w) (kept_by w) refusals.Malformed d.is known why)
  changed (refusals.Path number) on known why = has_changed number on why
  changed (refusals.Base base span) on known why = absurd why
  changed refusals.Memory on known why = absurd (known refl)

-- ---- the answer

module _ (now : Contents) (r : RunRequest) (word : List ℕ) (w : WrittenByDump now r.archive) (named : internal_name word ≡ Some r.name) (clash : Clashfree w.past w.dump.folder now r.folder) where
  -- Where the class is taken from, its bytes are those of its file.
  taken_is : (bytes : List ℕ) (current : Folders) (found : Option (List ℕ)) (paths : List (List ℕ)) → IsDumped now r w bytes current → TakesFrom (Some now) r bytes current found paths → found ≡ get now (class_path r)
  taken_is bytes current found paths d (inl (held, h, is, none)) =
      let one = one_is bytes h.classes (classes_by w) h.mapped.kept (kept_by w) h.mapped.archive d.is in
      let kept : IsFirstChanged (kept_by w) current None = subst (λ (f : Folders). IsFirstChanged f current None) one.1 h.mapped.unchanged in
      let unchanged : IsFirstChanged (kept_by w) (manifest_now now (lists_of r.folder)) None = subst (λ (f : Folders). IsFirstChanged (kept_by w) f None) d.made kept in
      let holds : class_in (classes_by w) r.name ≡ Some held = subst (λ (c : List PlainClass). class_in c r.name ≡ Some held) one.0 h.held in
      is ∙ sym (held_is_there w.past now w.dump.folder r word _ (classes_by w) held named w.dumped.gathered.each unchanged clash holds)
  taken_is bytes current found paths d (inr (why, at, one)) = sym at

  taken_keeps : (old new : Option (List (List ℕ))) (first : List (List ℕ)) (bytes : List ℕ) (current : Folders) (before after : Option (List ℕ)) (ended : Ended) → IsDumped now r w bytes current → Taken (Some now) old new first r bytes current before after ended
      → FileAnswers (get now (class_path r)) r.steps before after ended
  taken_keeps old new first bytes current before after ended d t =
      subst (λ (o : Option (List ℕ)). FileAnswers o r.steps before after ended) (taken_is bytes current t.found t.paths d t.from) t.answer

  mapped_keeps : (old new : Option (List (List ℕ))) (first : List (List ℕ)) (bytes : List ℕ) (current : Folders) (before after : Option (List ℕ)) (ended : Ended) → IsDumped now r w bytes current → MappedAnswers (Some now) old new first r bytes current before after ended
      → AsFromFile now r w before after ended
  mapped_keeps old new first bytes current before after (Exit code) d m = taken_keeps old new first bytes current before after (Exit code) d m
  mapped_keeps old new first bytes current before after Usage d m = m
  mapped_keeps old new first bytes current before after (BadText number) d m = m
  mapped_keeps old new first bytes current before after NoBoot d m = absurd m
  mapped_keeps old new first bytes current before after NoMain d m = taken_keeps old new first bytes current before after NoMain d m
  mapped_keeps old new first bytes current before after Missing d m = m
  mapped_keeps old new first bytes current before after (NotShared refuse) d m = changed now r r.archive w bytes current d refuse m.0.on m.0.refused.known m.0.refused.why
  mapped_keeps old new first bytes current before after Stopped d m = taken_keeps old new first bytes current before after Stopped d m
  mapped_keeps old new first bytes current before after Unsupported d m = taken_keeps old new first bytes current before after Unsupported d m
  mapped_keeps old new first bytes current before after ReadFault d m = m.1
  mapped_keeps old new first bytes current before after WriteFault d m = taken_keeps old new first bytes current before after WriteFault d m
  mapped_keeps old new first bytes current before after (Limit quantity limit) d m = tt
  mapped_keeps old new first bytes current before after Memory d (inl m) = inl m.1
  mapped_keeps old new first bytes current before after Memory d (inr m) = taken_keeps old new first bytes current before after Memory d m

  -- The archive or the manifest can't be had.
  opens_keeps : (old new : Option (List (List ℕ))) (before after : Option (List ℕ)) (ended : Ended) → OpensNot (Some now) old new r.folder r.archive ended → after ≡ before → AsFromFile now r w before after ended
  opens_keeps old new before after (Exit code) h e = absurd h
  opens_keeps old new before after Usage h e = h
  opens_keeps old new before after (BadText number) h e = h
  opens_keeps old new before after NoBoot h e = absurd h
  opens_keeps old new before after NoMain h e = absurd h
  opens_keeps old new before after Missing h e = h
  opens_keeps old new before after (NotShared refuse) h e = absurd h
  opens_keeps old new before after Stopped h e = absurd h
  opens_keeps old new before after Unsupported h e = absurd h
  opens_keeps old new before after ReadFault h e = e
  opens_keeps old new before after WriteFault h e = absurd h
  opens_keeps old new before after (Limit quantity limit) h e = tt
  opens_keeps old new before after Memory h e = inl e

  answer_keeps : (old new : Option (List (List ℕ))) (before after : Option (List ℕ)) (ended : Ended) → ArchiveAnswers (Some now) old new r before after ended → AsFromFile now r w before after ended
  answer_keeps old new before after ended (inl h) = opens_keeps old new before after ended h.0 h.1
  answer_keeps old new before after ended (inr (o, m)) = mapped_keeps old new _ (archive_bytes o.read.found) o.now before after ended (is_dumped now r r.archive w o) m

-- A run that is given an archive that a dump wrote answers as the run that reads the class's file.
pub headline : (words : List (List ℕ)) (request : Option Request) (old new : Option Store) (faults : ℕ × ℕ) (before after : Option (List ℕ)) (subject : List ℕ) (ended : Ended) → request_of words ≡ request → RequestAnswers request old new faults before after subject ended
    → RunsAsFromFile request old before after ended
headline words None old new faults before after subject ended e h = tt
headline words (Some request) None new faults before after subject ended e h = tt
headline words (Some (Dump d)) (Some store) new faults before after subject ended e h = tt
headline words (Some (Asm a)) (Some store) new faults before after subject ended e h = tt
headline words (Some (HomeRun r)) (Some store) new faults before after subject ended e h = tt
headline words (Some (MakeHome dir)) (Some store) new faults before after subject ended e h = tt
headline words (Some (Run r)) (Some store) new faults before after subject ended e h =
    let name = request_name words r e in
    λ w clash. answer_keeps store.contents r name.0 w name.1 clash (reads_told (Some store)) (reads_told new) before after ended h.0
