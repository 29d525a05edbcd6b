-- A load ends alike whatever is under way where the recursion comes to it.
use Rattle.std.proofs.Common.{◌≡◌, ℕ, ◌<◌, suc, zero, List, [], ◌∷◌, ◌++◌, refl, sym, ◌∙◌, ap, arith, Bool, true, false, ◌||◌}
use Rattle.std.specs.Prelude.{Option, None, Some, if◌then◌else◌}
use Rattle.std.specs.Str.{bytes_eq}
use Rattle.class_tree.specs.declared.tree.ClassTree.{ClassTree}
use Rattle.loader_rules.specs.declared.loader.Loader.{Loader}
use Rattle.class_record.specs.declared.fault.JavaFault.{JavaFault}
use Rattle.class_record.specs.declared.fault.JavaFault.TheVariants.{NoClassDefFoundError, ClassCircularityError}
use Rattle.class_record.specs.Files.{Name, RunFiles, ClassFile, file_of}
use Rattle.class_record.specs.Readings.{Reading, IsClass, OtherVersion, NotClass, reading_of}
use Rattle.class_record.specs.declared.bases.Base.{Base}
use Rattle.class_tree.specs.ClassNames.{own_name}
use Rattle.class_record.specs.Trees.{bases_of}
use Rattle.class_record.specs.Loading.{Outcome, after_fault, and_then, completes, fails, is_among, tests, loads_base, loads_bases, on_reading, on_found, load_under, Loaded}
use Rattle.class_record.specs.Laws.{Reaches}
use Rattle.class_record.proofs.Room.{left, left_falls, load_level}
use Rattle.class_record.proofs.Again.{among_more, itself}
use Rattle.class_record.proofs.Circular.{AllCircle, all_circle, circle_here, not_found}

-- ---- faults that agree

alike_after : (o k : Option JavaFault) (a b c d : Outcome) → o ≡ k → a.fault ≡ b.fault → c.fault ≡ d.fault → (after_fault o a c).fault ≡ (after_fault k b d).fault
alike_after None None a b c d e f g = g
alike_after None (Some x) a b c d e f g = absurd (cc)
alike_after (Some x) None a b c d e f g = absurd (cc)
alike_after (Some x) (Some y) a b c d e f g = f

alike_both : (a b c d : Outcome) → a.fault ≡ b.fault → c.fault ≡ d.fault → (and_then a c).fault ≡ (and_then b d).fault
alike_both a b c d e f = alike_after a.fault b.fault a b c d e e f

alike_if : (c : Bool) (x y z : Outcome) → (c ≡ true → x.fault ≡ y.fault) → (if c then x else z).fault ≡ (if c then y else z).fault
alike_if true x y z h = h refl
alike_if false x y z h = refl

alike_unless : (c d : Bool) (x y z : Outcome) → c ≡ false → d ≡ false → x.fault ≡ y.fault → (if c then z else x).fault ≡ (if d then z else y).fault
alike_unless true d x y z f g h = absurd (cc)
alike_unless false true x y z f g h = absurd (cc)
alike_unless false false x y z f g h = h

-- ---- one level, with these names under way and with others

module _ (deeper : List Name → Loader → Name → Outcome) (p : RunFiles) (under others : List Name) where
  abbrev AlikeBelow : Name → Type 0
  AlikeBelow name = (l : Loader) (m : Name) → (deeper (name ∷ under) l m).fault ≡ (deeper (name ∷ others) l m).fault

  bases_alike : (name : Name) (loader : Loader) → AlikeBelow name → (bases : List Base) → (loads_bases deeper p under name loader bases).fault ≡ (loads_bases deeper p others name loader bases).fault
  bases_alike name loader h [] = refl
  bases_alike name loader h (x ∷ xs) =
      alike_both (loads_base deeper p under name loader x) (loads_base deeper p others name loader x) (loads_bases deeper p under name loader xs) (loads_bases deeper p others name loader xs)
      (alike_both (deeper (name ∷ under) loader x.name) (deeper (name ∷ others) loader x.name) (tests p name loader x) (tests p name loader x) (h loader x.name) refl)
      (bases_alike name loader h xs)

  reading_alike : (name : Name) (loader : Loader) (r : Reading) → ((tree : ClassTree) → r ≡ IsClass tree → bytes_eq (own_name tree) name ≡ true → AlikeBelow name)
      → (on_reading deeper p under name loader r).fault ≡ (on_reading deeper p others name loader r).fault
  reading_alike name loader OtherVersion h = refl
  reading_alike name loader NotClass h = refl
  reading_alike name loader (IsClass tree) h = alike_if (bytes_eq (own_name tree) name) _ _ (fails NoClassDefFoundError) (λ same.
      alike_both (loads_bases deeper p under name loader (bases_of tree)) (loads_bases deeper p others name loader (bases_of tree)) (completes name) (completes name)
      (bases_alike name loader (h tree refl same) (bases_of tree)) refl)

  found_alike : (name : Name) (file : ClassFile) → is_among name under ≡ false → is_among name others ≡ false
      → ((tree : ClassTree) → reading_of file.bytes ≡ IsClass tree → bytes_eq (own_name tree) name ≡ true → AlikeBelow name)
      → (on_found deeper p under name (Some file)).fault ≡ (on_found deeper p others name (Some file)).fault
  found_alike name file new other h = alike_unless (is_among name under) (is_among name others) _ _ (fails ClassCircularityError) new other
      (reading_alike name file.loader (reading_of file.bytes) h)

-- ---- with the names of the way under way, and without them

or_assoc : (a b c : Bool) → (a || (b || c)) ≡ ((a || b) || c)
or_assoc true b c = refl
or_assoc false b c = refl

among_append : (x : Name) (ys zs : List Name) → is_among x (ys ++ zs) ≡ (is_among x ys || is_among x zs)
among_append x [] zs = refl
among_append x (y ∷ ys) zs = ap (λ (b : Bool). bytes_eq x y || b) (among_append x ys zs) ∙ or_assoc (bytes_eq x y) (is_among x ys) (is_among x zs)

module _ (p : RunFiles) (last : Name) (way : List Name) (circles : AllCircle p last way) where
  abbrev WithoutWay : List Name → Loader → Name → Type 0
  WithoutWay under from name = (load_under p (under ++ way) from name).fault ≡ (load_under p under from name).fault

  by_membership : (under : List Name) (from : Loader) (name : Name) (file : ClassFile) → file_of p from name ≡ Some file → is_among last (name ∷ under) ≡ true
      → (is_among name under ≡ false → (tree : ClassTree) → reading_of file.bytes ≡ IsClass tree → bytes_eq (own_name tree) name ≡ true → (l : Loader) (m : Name) → WithoutWay (name ∷ under) l m)
      → (a b : Bool) → is_among name under ≡ a → is_among name way ≡ b → WithoutWay under from name
  by_membership under from name file found at below true b is on_way =
      circle_here p (under ++ way) from name file found (among_append name under way ∙ ap (λ (c : Bool). c || is_among name way) is)
      ∙ sym (circle_here p under from name file found is)
  by_membership under from name file found at below false true is on_way =
      circle_here p (under ++ way) from name file found (among_append name under way ∙ (ap (λ (c : Bool). c || is_among name way) is ∙ on_way))
      ∙ sym (circles name under from file on_way at found)
  by_membership under from name file found at below false false is on_way =
      ap (λ (o : Outcome). o.fault) (load_level p (under ++ way) from name)
      ∙ (ap (λ (o : Option ClassFile). (on_found (load_under p) p (under ++ way) name o).fault) found
      ∙ (found_alike (load_under p) p (under ++ way) under name file (among_append name under way ∙ (ap (λ (c : Bool). c || is_among name way) is ∙ on_way)) is (below is)
      ∙ (sym (ap (λ (o : Option ClassFile). (on_found (load_under p) p under name o).fault) found)
      ∙ sym (ap (λ (o : Outcome). o.fault) (load_level p under from name)))))

  by_file : (under : List Name) (from : Loader) (name : Name) → is_among last (name ∷ under) ≡ true
      → ((file : ClassFile) → file_of p from name ≡ Some file → is_among name under ≡ false → (tree : ClassTree) → reading_of file.bytes ≡ IsClass tree → bytes_eq (own_name tree) name ≡ true
      → (l : Loader) (m : Name) → WithoutWay (name ∷ under) l m)
      → (o : Option ClassFile) → file_of p from name ≡ o → WithoutWay under from name
  by_file under from name at below None found = not_found p (under ++ way) from name found ∙ sym (not_found p under from name found)
  by_file under from name at below (Some file) found = by_membership under from name file found at (below file found) (is_among name under) (is_among name way) refl refl

  without_way : (n : ℕ) (under : List Name) (from : Loader) (name : Name) → left p under < n → is_among last (name ∷ under) ≡ true → WithoutWay under from name
  without_way zero under from name h at = absurd (omega arith)
  without_way (suc n) under from name h at = by_file under from name at
      (λ file found new tree is same l m. without_way n (name ∷ under) l m (let f = left_falls p under from name file tree found new is same in omega arith) (among_more last m (name ∷ under) at))
      (file_of p from name) refl

alike_at : (p : RunFiles) (under : List Name) (from : Loader) (name : Name) → Reaches p under from name → (o : Option ClassFile) → file_of p from name ≡ o
    → (load_under p under from name).fault ≡ (load_under p [] from name).fault
alike_at p under from name r None found = not_found p under from name found ∙ sym (not_found p [] from name found)
alike_at p under from name r (Some file) found =
    without_way p name under (all_circle p name under from name r (λ others at. circle_here p others from name file found at)) (suc (left p [])) [] from name (omega arith) (itself name [])

-- Wherever the recursion comes to a name, its load ends as the load of that name alone does.
pub loads_alike : (p : RunFiles) (under : List Name) (from : Loader) (name : Name) → Reaches p under from name → (load_under p under from name).fault ≡ Loaded p from name
loads_alike p under from name r = alike_at p under from name r (file_of p from name) refl
