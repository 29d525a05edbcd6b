-- The classes of the names that a dump lists, name by name.
use Rattle.std.proofs.Common.{◌≡◌, ◌∙◌, ◌≤◌, ◌+◌, ℕ, zero, suc, List, [], ◌∷◌, ◌++◌, Option, Some, None, refl, sym, ap, subst, length, arith}
use Rattle.std.specs.Prelude.{◌<◌, take, drop, slice_get, Ok, Err, Result}
use Rattle.std.specs.Global.{Vec}
use Rattle.jsa_files.specs.declared.TheConstants.{MAX_FILE}
use Rattle.jsa_files.specs.declared.fault.FilesFault.{FilesFault}
use Rattle.jsa_files.specs.declared.fault.FilesFault.TheVariants as faults
use Rattle.jsa_files.specs.Store.{Contents, Store, AnswersAsTold, KeepsSize}
use Rattle.jsa_names.specs.Paths as names
use Rattle.plain_classes.specs.declared.class.PlainClass.{PlainClass}
use Rattle.plain_classes.specs.Records.{IsNamed}
use Rattle.jsa.specs.declared.ended.Ended.{Ended}
use Rattle.jsa.specs.declared.ended.Ended.TheVariants.{Exit, Usage, BadText, NoBoot, NoMain, Missing, NotShared, Stopped, Unsupported, ReadFault, WriteFault, Limit, Memory}
use Rattle.command_words.specs.Words.{DumpRequest}
use Rattle.jsa_files.specs.Told.{IsAt, contents_told}
use Rattle.jsa.specs.Faults.{end_of}
use Rattle.jsa.specs.Dumps.{IsInPath, IsInFolder, HasClass, HasClasses}
use Rattle.jsa.specs.Steps.{texts_of, subject_at, IsClassIn, HasNot, HasAs, HasAtPath, StopsAt, NamesIn, ListsAs, ListsNot}
use Rattle.std.proofs.lemmas.Option.{slice_get-get_or, unwrap_or-slice_get}
use Rattle.std.proofs.lemmas.List.{length-map}
use Rattle.jsa.proofs.Ends.{large_told}

-- ---- a name's file

in_folder : (contents : Option Contents) (folder name path : List ℕ) (found : Option (List ℕ)) → names.path_of folder name ≡ Some path → IsAt contents path found → IsInFolder contents folder name found
in_folder contents folder name path found e h = subst (λ (o : Option (List ℕ)). IsInPath contents o found) (sym e) h

-- A name without a path has no class.
pub no_path : (contents : Option Contents) (folder name : List ℕ) → names.path_of folder name ≡ None → HasAs contents folder name (Err Unsupported)
no_path contents folder name e = record {
  found = None;
  at = subst (λ (o : Option (List ℕ)). IsInPath contents o None) (sym e) refl;
  other = λ bytes is. absurd cc;
}

-- There is no file at the path.
pub no_file : (contents : Option Contents) (name path : List ℕ) → IsAt contents path None → HasAtPath contents path name (Err Unsupported)
no_file contents name path h = λ folder e. record {
  found = None;
  at = in_folder contents folder name path None e h;
  other = λ bytes is. absurd cc;
}

some_is : (a b : List ℕ) → ◌≡◌ {A = Option (List ℕ)} (Some a) (Some b) → a ≡ b
some_is a b e = cc

-- What the file at the path is, is what the name has.
pub in_file : (contents : Option Contents) (name path bytes : List ℕ) (result : Result PlainClass Ended) → IsAt contents path (Some bytes) → length bytes ≤ MAX_FILE → IsClassIn bytes name result → HasAtPath contents path name result
in_file contents name path bytes (Ok class) at small h = λ folder e. record {
  named = h.0;
  at = subst (λ (b : List ℕ). IsInFolder contents folder name (Some b)) (sym h.1) (in_folder contents folder name path (Some bytes) e at);
  small = subst (λ (b : List ℕ). length b ≤ MAX_FILE) (sym h.1) small;
  form = subst (λ (b : List ℕ). IsNamed b name) (sym h.1) h.2;
}
in_file contents name path bytes (Err Unsupported) at small h = λ folder e. record {
  found = Some bytes;
  at = in_folder contents folder name path (Some bytes) e at;
  other = λ b is. let same = some_is bytes b is in (subst (λ (x : List ℕ). length x ≤ MAX_FILE) same small, λ form. h (subst (λ (x : List ℕ). IsNamed x name) (sym same) form));
}
in_file contents name path bytes (Err Memory) at small h = λ folder e. tt
in_file contents name path bytes (Err (Exit code)) at small h = absurd h
in_file contents name path bytes (Err Usage) at small h = absurd h
in_file contents name path bytes (Err (BadText number)) at small h = absurd h
in_file contents name path bytes (Err NoBoot) at small h = absurd h
in_file contents name path bytes (Err NoMain) at small h = absurd h
in_file contents name path bytes (Err Missing) at small h = absurd h
in_file contents name path bytes (Err (NotShared refuse)) at small h = absurd h
in_file contents name path bytes (Err Stopped) at small h = absurd h
in_file contents name path bytes (Err ReadFault) at small h = absurd h
in_file contents name path bytes (Err WriteFault) at small h = absurd h
in_file contents name path bytes (Err (Limit quantity limit)) at small h = absurd h

-- The file at the path can't be read.
pub file_fails : (store : Option Store) (name path : List ℕ) (fault : FilesFault) → AnswersAsTold store path (Err fault) → KeepsSize (Err fault) → HasAtPath (contents_told store) path name (Err (end_of fault))
file_fails store name path faults.Failed told size = λ folder e. tt
file_fails store name path (faults.TooLarge size) told passes = λ folder e.
    let large = large_told store path size told passes in
    (refl, record { found = large.0; at = in_folder (contents_told store) folder name path large.0 e large.1; large = large.2 })
file_fails store name path (faults.TooMany count) told size = absurd size
file_fails store name path faults.Memory told size = λ folder e. tt

-- ---- the list

pub list_in_file : (contents : Option Contents) (d : DumpRequest) (bytes : List ℕ) (result : Result (Vec (Vec ℕ)) Ended) → IsAt contents d.list (Some bytes) → length bytes ≤ MAX_FILE → NamesIn bytes result → ListsAs contents d result
list_in_file contents d bytes (Ok names) at small h = (record { bytes = bytes; at = at; small = small }, h)
list_in_file contents d bytes (Err ended) at small h = subst (λ (e : Ended). ListsNot contents d e) (sym h) tt

pub list_fails : (store : Option Store) (d : DumpRequest) (fault : FilesFault) → AnswersAsTold store d.list (Err fault) → KeepsSize (Err fault) → ListsAs (contents_told store) d (Err (end_of fault))
list_fails store d faults.Failed told size = tt
list_fails store d (faults.TooLarge size) told passes = (refl, large_told store d.list size told passes)
list_fails store d (faults.TooMany count) told size = absurd size
list_fails store d faults.Memory told size = tt

-- ---- the names, one after the other

split_at : {A : Type 0} (xs : List A) (k : ℕ) (x : A) → slice_get xs k ≡ Some x → xs ≡ take k xs ++ x ∷ drop (suc k) xs
split_at [] k x e = absurd cc
split_at (y ∷ xs) zero x e = let same : y ≡ x = cc in ap (λ h. h ∷ xs) same
split_at (y ∷ xs) (suc k) x e = ap (λ t. y ∷ t) (split_at xs k x e)

take_more : {A : Type 0} (xs : List A) (k : ℕ) (x : A) → slice_get xs k ≡ Some x → take (suc k) xs ≡ take k xs ++ x ∷ []
take_more [] k x e = absurd cc
take_more (y ∷ xs) zero x e = let same : y ≡ x = cc in ap (λ h. h ∷ []) same
take_more (y ∷ xs) (suc k) x e = ap (λ t. y ∷ t) (take_more xs k x e)

has_more : (contents : Option Contents) (folder : List ℕ) (names : List (List ℕ)) (classes : List PlainClass) (name : List ℕ) (class : PlainClass) → HasClasses contents folder names classes → HasClass contents folder name class
    → HasClasses contents folder (names ++ name ∷ []) (classes ++ class ∷ [])
has_more contents folder [] [] name class h c = (c, tt)
has_more contents folder [] (d ∷ classes) name class h c = absurd h
has_more contents folder (n ∷ names) [] name class h c = absurd h
has_more contents folder (n ∷ names) (d ∷ classes) name class h c = (h.0, has_more contents folder names classes name class h.1 c)

-- One name more has its class.
pub turned : (contents : Option Contents) (folder : List ℕ) (names : List (List ℕ)) (k : ℕ) (classes : List PlainClass) (name : List ℕ) (class : PlainClass) → slice_get names k ≡ Some name → HasClasses contents folder (take k names) classes → HasClass contents folder name class
    → HasClasses contents folder (take (k + 1) names) (classes ++ class ∷ [])
turned contents folder names k classes name class at h c =
    let next : k + 1 ≡ suc k = omega arith in
    let all : take (k + 1) names ≡ take k names ++ name ∷ [] = ap (λ (n : ℕ). take n names) next ∙ take_more names k name at in
    subst (λ (l : List (List ℕ)). HasClasses contents folder l (classes ++ class ∷ [])) (sym all) (has_more contents folder (take k names) classes name class h c)

-- the name at a place
pub named_at : (texts : List (Vec ℕ)) (k : ℕ) (name : List ℕ) → k < length texts → name ≡ subject_at (texts_of texts) k → slice_get (texts_of texts) k ≡ Some name
named_at texts k name below is =
    let within : k < length (texts_of texts) = subst (λ (n : ℕ). k < n) (sym (length-map texts (λ t. t.items))) below in
    slice_get-get_or (texts_of texts) k [] within ∙ ap (λ (n : List ℕ). Some n) (sym (unwrap_or-slice_get (texts_of texts) k []) ∙ sym is)

-- The name has none.
pub stopped : (contents : Option Contents) (folder : List ℕ) (names : List (List ℕ)) (k : ℕ) (classes : List PlainClass) (name : List ℕ) (ended : Ended) → slice_get names k ≡ Some name → HasClasses contents folder (take k names) classes → HasNot contents folder name ended
    → StopsAt contents folder names ended k
stopped contents folder names k classes name ended at h not = record {
  name = name;
  at = at;
  first = record {
    front = take k names;
    rest = drop (suc k) names;
    among = split_at names k name at;
    classes = classes;
    before = h;
    said = not;
  };
}
