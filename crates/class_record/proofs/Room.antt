-- More room for names under way changes nothing.
use Rattle.std.proofs.Common.{◌≡◌, ℕ, ◌+◌, ◌<◌, ◌≤◌, suc, zero, add-one, List, [], ◌∷◌, length, refl, sym, ◌∙◌, ap, arith, Bool, true, false, cond, not, ◌||◌}
use Rattle.std.specs.Prelude.{Option, None, Some, if◌then◌else◌}
use Rattle.std.specs.Option.{option_map}
use Rattle.std.specs.Ordering.{nat_cmp, eq_by_cmp}
use Rattle.std.specs.Cmp.Lexicographic.{slice_cmp}
use Rattle.std.specs.FinMap.{get, len, entries, find, get-entries, len-entries}
use Rattle.std.specs.Str.{bytes_eq}
use Rattle.std.proofs.lemmas.Slice.Eq.{bytes_eq-Decides}
use Rattle.jsa_files.specs.Store.{Contents}
use Rattle.class_tree.specs.declared.tree.ClassTree.{ClassTree}
use Rattle.loader_rules.specs.declared.loader.Loader.{Loader}
use Rattle.loader_rules.specs.Finding.{Place, found}
use Rattle.class_record.specs.Files.{Name, RunFiles, ClassFile, file_at, file_of}
use Rattle.class_record.specs.Readings.{Reading, IsClass, OtherVersion, NotClass, reading_of}
use Rattle.class_record.specs.declared.bases.Base.{Base}
use Rattle.class_tree.specs.ClassNames.{own_name}
use Rattle.class_record.specs.Trees.{bases_of}
use Rattle.class_record.specs.Loading.{Outcome, and_then, completes, begins, is_among, tests, loads_base, loads_bases, on_reading, on_found, level, load, load_under}
use Rattle.class_record.proofs.Finding.{file_there}

-- ---- how many files there are whose class isn't under way

-- whether a file spells a class whose name isn't under way
abbrev pub spells_other : List Name → Reading → Bool
spells_other under (IsClass tree) = not (is_among (own_name tree) under)
spells_other under OtherVersion = false
spells_other under NotClass = false

-- how many pass a test
abbrev pub tally : {X : Type 0} → (X → Bool) → List X → ℕ
tally test [] = 0
tally test (x ∷ xs) = cond (test x) 1 0 + tally test xs

-- the number of files that spell such a class
abbrev pub left : RunFiles → List Name → ℕ
left p under = tally (λ (e : List ℕ × List ℕ). spells_other under (reading_of e.1)) (entries p.contents)

counts : (a b : Bool) (n m : ℕ) → (a ≡ true → b ≡ true) → n ≤ m → cond a 1 0 + n ≤ cond b 1 0 + m
counts true true n m f h = omega arith
counts true false n m f h = let e : false ≡ true = f refl in cc
counts false true n m f h = omega arith
counts false false n m f h = omega arith

-- A test that passes less often counts no more,
tally_le : {X : Type 0} (q r : X → Bool) → ((x : X) → q x ≡ true → r x ≡ true) → (xs : List X) → tally q xs ≤ tally r xs
tally_le q r h [] = omega arith
tally_le q r h (x ∷ xs) = counts (q x) (r x) _ _ (h x) (tally_le q r h xs)

-- and less, where a file at which the other passes fails it.
module _ (q r : List ℕ → Bool) (h : (x : List ℕ) → q x ≡ true → r x ≡ true) (bytes path : List ℕ) (out : q bytes ≡ false) (in_r : r bytes ≡ true) where
  at_entry : (x : List ℕ × List ℕ) (es : List (List ℕ × List ℕ)) → (b : Bool) → (find (slice_cmp nat_cmp) path es ≡ Some bytes → tally (λ (e : List ℕ × List ℕ). q e.1) es < tally (λ (e : List ℕ × List ℕ). r e.1) es)
      → cond b (Some x.1) (find (slice_cmp nat_cmp) path es) ≡ Some bytes → cond (q x.1) 1 0 + tally (λ (e : List ℕ × List ℕ). q e.1) es < cond (r x.1) 1 0 + tally (λ (e : List ℕ × List ℕ). r e.1) es
  at_entry x es true hyp e = let i : x.1 ≡ bytes = cc in let k = tally_le (λ (e : List ℕ × List ℕ). q e.1) (λ e. r e.1) (λ e. h e.1) es in rw (i, out, in_r) (omega arith)
  at_entry x es false hyp e = let k = hyp e in let l = counts (q x.1) (r x.1) (suc (tally (λ (e : List ℕ × List ℕ). q e.1) es)) (tally (λ (e : List ℕ × List ℕ). r e.1) es) (h x.1) (omega arith) in omega arith

  tally_falls : (es : List (List ℕ × List ℕ)) → find (slice_cmp nat_cmp) path es ≡ Some bytes → tally (λ (e : List ℕ × List ℕ). q e.1) es < tally (λ (e : List ℕ × List ℕ). r e.1) es
  tally_falls [] e = cc
  tally_falls (x ∷ es) e = at_entry x es (eq_by_cmp (slice_cmp nat_cmp) path x.0) (tally_falls es) e

-- what is counted is no more than all
tally_small : {X : Type 0} (q : X → Bool) (xs : List X) → tally q xs ≤ length xs
tally_small q [] = omega arith
tally_small q (x ∷ xs) = more (q x) (tally q xs) (length xs) (tally_small q xs)
  where
    more : (b : Bool) (n m : ℕ) → n ≤ m → cond b 1 0 + n ≤ suc m
    more true n m h = omega arith
    more false n m h = omega arith

pub left_small : (p : RunFiles) (under : List Name) → left p under ≤ len p.contents
left_small p under = rw (len-entries p.contents) (tally_small (λ (e : List ℕ × List ℕ). spells_other under (reading_of e.1)) (entries p.contents))

-- the path of a found file
bytes_there : (contents : Contents) (place : Place) (file : ClassFile) (o : Option (List ℕ)) → get contents place.path ≡ o → option_map (file_at place) o ≡ Some file
    → (path : List ℕ) × (get contents path ≡ Some file.bytes)
bytes_there contents place file None at e = absurd (cc)
bytes_there contents place file (Some bytes) at e =
    let i : file_at place bytes ≡ file = cc in
    (place.path, at ∙ ap (λ (f : ClassFile). Some f.bytes) i)

place_there : (contents : Contents) (o : Option Place) (file : ClassFile) → file_there contents o ≡ Some file → (path : List ℕ) × (get contents path ≡ Some file.bytes)
place_there contents None file e = absurd (cc)
place_there contents (Some place) file e = bytes_there contents place file (get contents place.path) refl e

not_or : (a b : Bool) → not (a || b) ≡ true → not b ≡ true
not_or true b e = cc
not_or false b e = e

other_before : (name : Name) (under : List Name) (r : Reading) → spells_other (name ∷ under) r ≡ true → spells_other under r ≡ true
other_before name under (IsClass tree) e = not_or (bytes_eq (own_name tree) name) (is_among (own_name tree) under) e
other_before name under OtherVersion e = e
other_before name under NotClass e = e

-- Fewer are left with one more under way.
pub left_falls : (p : RunFiles) (under : List Name) (from : Loader) (name : Name) (file : ClassFile) (tree : ClassTree) → file_of p from name ≡ Some file → is_among name under ≡ false
    → reading_of file.bytes ≡ IsClass tree → bytes_eq (own_name tree) name ≡ true → left p (name ∷ under) < left p under
left_falls p under from name file tree at new is same =
    let path = place_there p.contents (found p.contents p.folders from name) file at in
    let e : own_name tree ≡ name = (bytes_eq-Decides (own_name tree) name).0 same in
    let out : spells_other (name ∷ under) (reading_of file.bytes) ≡ false = rw (is, same) refl in
    let in_r : spells_other under (reading_of file.bytes) ≡ true = rw (is, e, new) refl in
    tally_falls (λ bytes. spells_other (name ∷ under) (reading_of bytes)) (λ bytes. spells_other under (reading_of bytes)) (λ bytes. other_before name under (reading_of bytes)) file.bytes path.0 out in_r
    (entries p.contents) (sym (get-entries p.contents path.0) ∙ path.1)

-- ---- two ways to load what is below that agree make loads that agree

pub same_if : {A : Type 0} (c : Bool) (x y z : A) → (c ≡ true → x ≡ y) → (if c then x else z) ≡ (if c then y else z)
same_if true x y z h = h refl
same_if false x y z h = refl

pub same_unless : {A : Type 0} (c : Bool) (x y z : A) → (c ≡ false → x ≡ y) → (if c then z else x) ≡ (if c then z else y)
same_unless true x y z h = refl
same_unless false x y z h = h refl

both_same : (a b c d : Outcome) → a ≡ b → c ≡ d → and_then a c ≡ and_then b d
both_same a b c d e f = cc

module _ (a b : List Name → Loader → Name → Outcome) (p : RunFiles) (under : List Name) where
  abbrev Agree : Name → Type 0
  Agree name = (l : Loader) (m : Name) → a (name ∷ under) l m ≡ b (name ∷ under) l m

  pub bases_same : (name : Name) (loader : Loader) → Agree name → (bases : List Base) → loads_bases a p under name loader bases ≡ loads_bases b p under name loader bases
  bases_same name loader h [] = refl
  bases_same name loader h (x ∷ xs) =
      both_same (loads_base a p under name loader x) (loads_base b p under name loader x) (loads_bases a p under name loader xs) (loads_bases b p under name loader xs)
      (ap (λ (o : Outcome). and_then o (tests p name loader x)) (h loader x.name)) (bases_same name loader h xs)

  reading_same : (name : Name) (loader : Loader) (r : Reading) → ((tree : ClassTree) → r ≡ IsClass tree → bytes_eq (own_name tree) name ≡ true → Agree name)
      → on_reading a p under name loader r ≡ on_reading b p under name loader r
  reading_same name loader OtherVersion h = refl
  reading_same name loader NotClass h = refl
  reading_same name loader (IsClass tree) h = same_if (bytes_eq (own_name tree) name) _ _ _ (λ same.
      ap (λ (below : Outcome). and_then below (completes name)) (bases_same name loader (h tree refl same) (bases_of tree)))

  found_same : (name : Name) (o : Option ClassFile)
      → ((file : ClassFile) → o ≡ Some file → is_among name under ≡ false → (tree : ClassTree) → reading_of file.bytes ≡ IsClass tree → bytes_eq (own_name tree) name ≡ true → Agree name)
      → on_found a p under name o ≡ on_found b p under name o
  found_same name None h = refl
  found_same name (Some file) h = same_unless (is_among name under) _ _ _ (λ new.
      ap (λ (x : Outcome). begins name x) (reading_same name file.loader (reading_of file.bytes) (h file refl new)))

-- ---- any room that is enough gives the same

load_same : (n m : ℕ) (p : RunFiles) (under : List Name) (from : Loader) (name : Name) → left p under < n → left p under < m → load n p under from name ≡ load m p under from name
unfolding load
load_same zero m p under from name h k = absurd (omega arith)
load_same (suc n) zero p under from name h k = absurd (omega arith)
load_same (suc n) (suc m) p under from name h k = found_same (load n p) (load m p) p under name (file_of p from name) (λ file at new tree is same l x.
    load_same n m p (name ∷ under) l x (let f = left_falls p under from name file tree at new is same in omega arith) (let f = left_falls p under from name file tree at new is same in omega arith))

level_of : (n : ℕ) (p : RunFiles) (under : List Name) (from : Loader) (name : Name) → load (n + 1) p under from name ≡ level (load n p) p under from name
unfolding load
level_of n p under from name = rw add-one refl

-- One level of loading, over loading itself.
pub load_level : (p : RunFiles) (under : List Name) (from : Loader) (name : Name) → load_under p under from name ≡ level (load_under p) p under from name
unfolding load_under
load_level p under from name =
    let small = left_small p under in
    level_of (len p.contents) p under from name
    ∙ found_same (load (len p.contents) p) (load_under p) p under name (file_of p from name) (λ file at new tree is same l x.
    let f = left_falls p under from name file tree at new is same in
    load_same (len p.contents) (len p.contents + 1) p (name ∷ under) l x (omega arith) (omega arith))
