-- What files that are written one after the other leave in a store.
use Rattle.std.proofs.Common.{◌≡◌, ◌∙◌, ◌⊎◌, inl, inr, ℕ, suc, List, [], ◌∷◌, ◌++◌, Option, Some, None, refl, sym, ap, subst, arith, length, ◌<◌, ◌≤◌, ◌-◌, take, drop, get_or}
use Rattle.std.specs.Prelude.{Result, Ok, Err}
use Rattle.std.specs.List.{cons_option, AllByRecursion}
use Rattle.std.specs.FinMap.{insert}
use Rattle.std.specs.Option.{option_map, option_and_then}
use Rattle.std.proofs.lemmas.List.{append_assoc}
use Rattle.std.proofs.Math.Seq.{take-length}
use Rattle.jsa_files.specs.declared.fault.FilesFault.{FilesFault}
use Rattle.jsa_files.specs.declared.fault.FilesFault.TheVariants as answers
use Rattle.jsa_files.specs.Store.{Contents, Store, Writes, with_file}
use Rattle.class_tree.specs.declared.tree.ClassTree.{ClassTree}
use Rattle.class_tree.specs.Encoded.{encoded}
use Rattle.jsa_files.specs.Told.{contents_told, HoldsFront}
use Rattle.class_folder.specs.ClassFiles.{File, HasFile, HaveFiles, path_of_tree, file_of_tree, files_of, file_at, after_files, WritesSome, FailsAt, WritesFiles}

-- What a pattern of a first item and the others gives.
pub first_of : {A : Type 0} (xs : List A) (x : A) → x ≡ get_or xs 0 x → 1 ≤ length xs → xs ≡ x ∷ take (length xs - 1) (drop 1 xs)
first_of [] x e h = absurd (omega (arith, h))
first_of {A} (y ∷ ys) x e h =
    let less : suc (length ys) - 1 ≡ length ys = omega arith in
    ap (λ (a : A). a ∷ ys) (sym e) ∙ ap (λ (l : List A). x ∷ l) (sym (ap (λ (n : ℕ). take n ys) less ∙ take-length ys))

-- ---- one file

pub after_none : (old : Option Contents) → old ≡ after_files old []
after_none None = refl
after_none (Some contents) = refl

-- Nothing was written.
pub writes_none : (old new : Option Contents) (files : List File) → new ≡ old → WritesSome old new files
writes_none old new files e = record { done = []; rest = files; among = refl; holds = e ∙ after_none old }

written : (store : Option Store) (path bytes : List ℕ) → contents_told (with_file store path bytes) ≡ option_map (λ contents. insert contents path bytes) (contents_told store)
written None path bytes = refl
written (Some store) path bytes = refl

-- The write of a file failed.
pub fails_first : (before after : Option Store) (path bytes : List ℕ) → Writes {T = Unit {0}} before after path bytes (Err answers.Failed) → FailsAt (contents_told before) (contents_told after) (file_at path bytes ∷ [])
fails_first before after path bytes (inl e) = record { done = []; file = file_at path bytes; rest = []; among = refl; holds = inl (ap contents_told e ∙ after_none (contents_told before)) }
fails_first before after path bytes (inr f) = record {
  done = [];
  file = file_at path bytes;
  rest = [];
  among = refl;
  holds = inr (subst (λ (o : Option Contents). HoldsFront o (contents_told after) path bytes) (after_none (contents_told before)) (record {
    front = f.front;
    tail = f.tail;
    whole = f.whole;
    holds = ap contents_told f.holds ∙ written before path f.front;
  }));
}

-- A class whose name has a path has one file.
pub one_file : (folder : List ℕ) (tree : ClassTree) (path bytes : List ℕ) → path_of_tree folder tree ≡ Some path → bytes ≡ encoded tree → file_at path bytes ∷ [] ≡ files_of folder (tree ∷ [])
one_file folder tree path bytes e b =
    ap (λ (l : List ℕ). file_at path l ∷ []) b ∙ sym (ap (λ (o : Option (List ℕ)). cons_option (option_map (λ p. file_at p (encoded tree)) o) []) e)

-- ---- files one after the other

after_more : (old : Option Contents) (file : File) (files : List File) → after_files (after_files old (file ∷ [])) files ≡ after_files old (file ∷ files)
after_more None file files = refl
after_more (Some contents) file files = refl

some_more : (file : File) (old mid new : Option Contents) (rest : List File) → mid ≡ after_files old (file ∷ []) → WritesSome mid new rest → WritesSome old new (file ∷ rest)
some_more file old mid new rest e h = record {
  done = file ∷ h.done;
  rest = h.rest;
  among = ap (λ (l : List File). file ∷ l) h.among;
  holds = h.holds ∙ ap (λ (o : Option Contents). after_files o h.done) e ∙ after_more old file h.done;
}

fails_later : (file : File) (old mid new : Option Contents) (rest : List File) → mid ≡ after_files old (file ∷ []) → FailsAt mid new rest → FailsAt old new (file ∷ rest)
fails_later file old mid new rest e h = record {
  done = file ∷ h.done;
  file = h.file;
  rest = h.rest;
  among = ap (λ (l : List File). file ∷ l) h.among;
  holds = subst (λ (o : Option Contents). (new ≡ o) ⊎ HoldsFront o new h.file.path h.file.bytes) (ap (λ (o : Option Contents). after_files o h.done) e ∙ after_more old file h.done) h.holds;
}

-- A file was written, and then others.
pub then_file : {T : Type 0} (file : File) (old mid new : Option Contents) (faults : ℕ × ℕ) (rest : List File) (r : Result T FilesFault) → mid ≡ after_files old (file ∷ []) → WritesFiles mid new faults rest r → WritesFiles old new faults (file ∷ rest) r
then_file file old mid new faults rest (Ok x) e h = h ∙ ap (λ (o : Option Contents). after_files o rest) e ∙ after_more old file rest
then_file file old mid new faults rest (Err answers.Failed) e h = (fails_later file old mid new rest e h.0, h.1)
then_file file old mid new faults rest (Err answers.Memory) e h = some_more file old mid new rest e h
then_file file old mid new faults rest (Err (answers.TooLarge size)) e h = absurd h
then_file file old mid new faults rest (Err (answers.TooMany count)) e h = absurd h

-- The file of a class was written, if it has one, and then the others.
pub then_files : {T : Type 0} (o : Option File) (old mid new : Option Contents) (faults : ℕ × ℕ) (rest : List File) (r : Result T FilesFault) → mid ≡ after_files old (cons_option o []) → WritesFiles mid new faults rest r → WritesFiles old new faults (cons_option o rest) r
then_files None old mid new faults rest r e h = subst (λ (c : Option Contents). WritesFiles c new faults rest r) (e ∙ sym (after_none old)) h
then_files (Some file) old mid new faults rest r e h = then_file file old mid new faults rest r e h

-- Files were written one after the other, and then others.
pub then_others : {T : Type 0} (files : List File) (old mid new : Option Contents) (faults : ℕ × ℕ) (others : List File) (r : Result T FilesFault) → mid ≡ after_files old files → WritesFiles mid new faults others r → WritesFiles old new faults (files ++ others) r
then_others [] old mid new faults others r e h = subst (λ (c : Option Contents). WritesFiles c new faults others r) (e ∙ sym (after_none old)) h
then_others (file ∷ files) old mid new faults others r e h =
    then_file file old (after_files old (file ∷ [])) new faults (files ++ others) r refl
    (then_others files (after_files old (file ∷ [])) mid new faults others r (e ∙ sym (after_more old file files)) h)

fails_before : (old new : Option Contents) (files others : List File) → FailsAt old new files → FailsAt old new (files ++ others)
fails_before old new files others h = record {
  done = h.done;
  file = h.file;
  rest = h.rest ++ others;
  among = ap (λ (l : List File). l ++ others) h.among ∙ append_assoc h.done (h.file ∷ h.rest) others;
  holds = h.holds;
}

some_before : (old new : Option Contents) (files others : List File) → WritesSome old new files → WritesSome old new (files ++ others)
some_before old new files others h = record {
  done = h.done;
  rest = h.rest ++ others;
  among = ap (λ (l : List File). l ++ others) h.among ∙ append_assoc h.done h.rest others;
  holds = h.holds;
}

-- Not all of the files were written, and no others.
pub before_others : (T : Type 0) (old new : Option Contents) (faults : ℕ × ℕ) (files others : List File) (fault : FilesFault) → WritesFiles {T = T} old new faults files (Err fault) → WritesFiles {T = T} old new faults (files ++ others) (Err fault)
before_others T old new faults files others answers.Failed h = (fails_before old new files others h.0, h.1)
before_others T old new faults files others answers.Memory h = some_before old new files others h
before_others T old new faults files others (answers.TooLarge size) h = absurd h
before_others T old new faults files others (answers.TooMany count) h = absurd h

cons_append : (o : Option File) (others : List File) → cons_option o [] ++ others ≡ cons_option o others
cons_append None others = refl
cons_append (Some file) others = refl

-- ---- the loop over the classes

-- A class was written, and then the others.
pub turned : (T : Type 0) (folder : List ℕ) (rest : List ClassTree) (tree : ClassTree) (more : List ClassTree) (old mid new : Option Contents) (faults : ℕ × ℕ) (r : Result T FilesFault) → rest ≡ tree ∷ more
    → mid ≡ after_files old (files_of folder (tree ∷ [])) → WritesFiles mid new faults (files_of folder more) r → WritesFiles old new faults (files_of folder rest) r
turned T folder rest tree more old mid new faults r e w h =
    subst (λ (l : List ClassTree). WritesFiles old new faults (files_of folder l) r) (sym e) (then_files (file_of_tree folder tree) old mid new faults (files_of folder more) r w h)

-- A class wasn't written, and no others.
pub stopped : (T : Type 0) (folder : List ℕ) (rest : List ClassTree) (tree : ClassTree) (more : List ClassTree) (old new : Option Contents) (faults : ℕ × ℕ) (fault : FilesFault) → rest ≡ tree ∷ more
    → WritesFiles {T = T} old new faults (files_of folder (tree ∷ [])) (Err fault) → WritesFiles {T = T} old new faults (files_of folder rest) (Err fault)
stopped T folder rest tree more old new faults fault e h =
    let one = file_of_tree folder tree in
    let all = before_others T old new faults (cons_option one []) (files_of folder more) fault h in
    subst (λ (l : List ClassTree). WritesFiles {T = T} old new faults (files_of folder l) (Err fault)) (sym e)
    (subst (λ (l : List File). WritesFiles {T = T} old new faults l (Err fault)) (cons_append one (files_of folder more)) all)

-- No class is left.
pub none_left : (folder : List ℕ) (rest : List ClassTree) (old : Option Contents) → length rest < 1 → old ≡ after_files old (files_of folder rest)
none_left folder [] old h = after_none old
none_left folder (tree ∷ rest) old h = absurd (omega (arith, h))

-- ---- each class has a file

by_path : (bytes : List ℕ) (path : Option (List ℕ)) (p : List ℕ) → path ≡ Some p → option_map (λ q. file_at q bytes) path ≡ Some (file_at p bytes)
by_path bytes path p e = ap (option_map (λ (q : List ℕ). file_at q bytes)) e

first_more : (found : Option File) (file : File) (others : List File) (n : ℕ) → found ≡ Some file → length others ≡ n → length (cons_option found others) ≡ suc n
first_more found file others n is e = ap (λ (o : Option File). length (cons_option o others)) is ∙ ap suc e

-- Each class whose name has a path has a file.
pub each_file : (folder : List ℕ) (trees : List ClassTree) → AllByRecursion (HasFile folder) trees → HaveFiles folder trees
each_file folder [] all = refl
each_file folder (t ∷ trees) all =
    first_more (file_of_tree folder t) (file_at all.0.0 (encoded t)) (files_of folder trees) (length trees) (by_path (encoded t) (path_of_tree folder t) all.0.0 all.0.1) (each_file folder trees all.1)
