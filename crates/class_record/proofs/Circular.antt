-- Where a load that is Ok with some names under way comes to others under way, it is circular.
use Rattle.std.proofs.Common.{◌≡◌, ℕ, ◌<◌, suc, zero, List, [], ◌∷◌, ◌++◌, refl, sym, ◌∙◌, ap, subst, arith, Bool, true, false}
use Rattle.std.specs.Prelude.{Option, None, Some, if◌then◌else◌}
use Rattle.std.specs.Str.{bytes_eq}
use Rattle.std.proofs.lemmas.Slice.Eq.{bytes_eq-Decides}
use Rattle.class_tree.specs.declared.tree.ClassTree.{ClassTree}
use Rattle.loader_rules.specs.declared.loader.Loader.{Loader}
use Rattle.loader_rules.specs.declared.loader.Loader.TheVariants.{App}
use Rattle.class_record.specs.declared.fault.JavaFault.{JavaFault}
use Rattle.class_record.specs.declared.fault.JavaFault.TheVariants.{NoClassDefFoundError, ClassCircularityError}
use Rattle.class_record.specs.Files.{Name, RunFiles, ClassFile, file_of}
use Rattle.class_record.specs.Readings.{Reading, IsClass, OtherVersion, NotClass, reading_of}
use Rattle.class_record.specs.declared.bases.Base.{Base}
use Rattle.class_tree.specs.ClassNames.{own_name}
use Rattle.class_record.specs.Trees.{bases_of}
use Rattle.class_record.specs.Loading.{Outcome, after_fault, and_then, each, completes, begins, fails, is_among, tests, loads_base, loads_bases, on_reading, on_found, load_under}
use Rattle.class_record.specs.Laws.{Reaches, Start, Below}
use Rattle.class_record.proofs.Finding.{file_from_app}
use Rattle.class_record.proofs.Room.{left, left_falls, load_level}
use Rattle.class_record.proofs.Again.{among_more, among_tail}

-- ---- the fault of one outcome after another

pub and_fine : (a b : Outcome) → a.fault ≡ None → (and_then a b).fault ≡ b.fault
and_fine a b h = ap (λ (o : Option JavaFault). (after_fault o a b).fault) h

pub and_some : (a b : Outcome) (fault : JavaFault) → a.fault ≡ Some fault → (and_then a b).fault ≡ Some fault
and_some a b fault h = ap (λ (o : Option JavaFault). (after_fault o a b).fault) h ∙ h

pub and_none : (a b : Outcome) → (and_then a b).fault ≡ None → (a.fault ≡ None) × (b.fault ≡ None)
and_none a b e = go a.fault refl e
  where
    go : (o : Option JavaFault) → a.fault ≡ o → (after_fault o a b).fault ≡ None → (a.fault ≡ None) × (b.fault ≡ None)
    go None is e = (is, e)
    go (Some fault) is e = absurd (cc)

-- ---- Ok or circular

abbrev pub IsCircular : Outcome → Type 0
IsCircular o = o.fault ≡ Some ClassCircularityError

data MayCircle (o : Outcome) : Type 0 where
  Fine : o.fault ≡ None → MayCircle o
  Circles : IsCircular o → MayCircle o

may_both : (a b : Outcome) → MayCircle a → MayCircle b → MayCircle (and_then a b)
may_both a b (Circles h) k = Circles (and_some a b ClassCircularityError h)
may_both a b (Fine h) (Fine k) = Fine (and_fine a b h ∙ k)
may_both a b (Fine h) (Circles k) = Circles (and_fine a b h ∙ k)

module _ (one two : Base → Outcome) (may : (base : Base) → (one base).fault ≡ None → MayCircle (two base)) where
  may_each : (bases : List Base) → (each one bases).fault ≡ None → MayCircle (each two bases)
  may_each [] e = Fine refl
  may_each (x ∷ xs) e =
      let k = and_none (one x) (each one xs) e in
      may_both (two x) (each two xs) (may x k.0) (may_each xs k.1)

  first_or_behind : (x : Base) (xs : List Base) → MayCircle (two x) → IsCircular (each two xs) → IsCircular (each two (x ∷ xs))
  first_or_behind x xs (Circles h) k = and_some (two x) (each two xs) ClassCircularityError h
  first_or_behind x xs (Fine h) k = and_fine (two x) (each two xs) h ∙ k

  -- Where the one way is Ok up to a base that is circular the other way, the other way is circular as a whole.
  circle_behind : (before : List Base) (base : Base) (behind : List Base) → (each one before).fault ≡ None → IsCircular (two base) → IsCircular (each two (before ++ base ∷ behind))
  circle_behind [] base behind e h = and_some (two base) (each two behind) ClassCircularityError h
  circle_behind (x ∷ xs) base behind e h =
      let k = and_none (one x) (each one xs) e in
      first_or_behind x (xs ++ base ∷ behind) (may x k.0) (circle_behind xs base behind k.1 h)

may_if : (c : Bool) (x y : Outcome) (fault : JavaFault) → (c ≡ true → x.fault ≡ None → MayCircle y) → (if c then x else fails fault).fault ≡ None → MayCircle (if c then y else fails fault)
may_if true x y fault h e = h refl e
may_if false x y fault h e = absurd (cc)

may_unless : (c d : Bool) (x y : Outcome) → (c ≡ false → x.fault ≡ None → MayCircle y) → (if c then fails ClassCircularityError else x).fault ≡ None
    → MayCircle (if d then fails ClassCircularityError else y)
may_unless true d x y h e = absurd (cc)
may_unless false true x y h e = Circles refl
may_unless false false x y h e = h refl e

-- ---- one level, with these names under way and with others

module _ (a b : List Name → Loader → Name → Outcome) (p : RunFiles) (under others : List Name) where
  abbrev MayBelow : Name → Type 0
  MayBelow name = (l : Loader) (m : Name) → (a (name ∷ under) l m).fault ≡ None → MayCircle (b (name ∷ others) l m)

  may_base : (name : Name) (loader : Loader) → MayBelow name → (base : Base) → (loads_base a p under name loader base).fault ≡ None → MayCircle (loads_base b p others name loader base)
  may_base name loader h base e =
      let k = and_none (a (name ∷ under) loader base.name) (tests p name loader base) e in
      may_both (b (name ∷ others) loader base.name) (tests p name loader base) (h loader base.name k.0) (Fine k.1)

  may_reading : (name : Name) (loader : Loader) (r : Reading) → ((tree : ClassTree) → r ≡ IsClass tree → bytes_eq (own_name tree) name ≡ true → MayBelow name)
      → (on_reading a p under name loader r).fault ≡ None → MayCircle (on_reading b p others name loader r)
  may_reading name loader OtherVersion h e = absurd (cc)
  may_reading name loader NotClass h e = absurd (cc)
  may_reading name loader (IsClass tree) h e = may_if (bytes_eq (own_name tree) name) _ _ NoClassDefFoundError (λ same f.
      let k = and_none (loads_bases a p under name loader (bases_of tree)) (completes name) f in
      may_both (loads_bases b p others name loader (bases_of tree)) (completes name)
      (may_each (loads_base a p under name loader) (loads_base b p others name loader) (may_base name loader (h tree refl same)) (bases_of tree) k.0) (Fine refl)) e

  may_begin : (name : Name) (o : Outcome) → MayCircle o → MayCircle (begins name o)
  may_begin name o (Fine h) = Fine h
  may_begin name o (Circles h) = Circles h

  may_found : (name : Name) (o : Option ClassFile)
      → ((file : ClassFile) → o ≡ Some file → is_among name under ≡ false → (tree : ClassTree) → reading_of file.bytes ≡ IsClass tree → bytes_eq (own_name tree) name ≡ true → MayBelow name)
      → (on_found a p under name o).fault ≡ None → MayCircle (on_found b p others name o)
  may_found name None h e = absurd (cc)
  may_found name (Some file) h e = may_unless (is_among name under) (is_among name others) _ _ (λ new f.
      may_begin name _ (may_reading name file.loader (reading_of file.bytes) (h file refl new) f)) e

may_at : (n : ℕ) (p : RunFiles) (under others : List Name) (from : Loader) (name : Name) → left p under < n → (load_under p under from name).fault ≡ None → MayCircle (load_under p others from name)
may_at zero p under others from name h e = absurd (omega arith)
may_at (suc n) p under others from name h e =
    subst MayCircle (sym (load_level p others from name))
    (may_found (load_under p) (load_under p) p under others name (file_of p from name)
    (λ file at new tree is same l x. may_at n p (name ∷ under) (name ∷ others) l x (let f = left_falls p under from name file tree at new is same in omega arith))
    (sym (ap (λ (o : Outcome). o.fault) (load_level p under from name)) ∙ e))

-- What loads with some names under way loads with others too, or comes to one of them.
may_circle : (p : RunFiles) (under others : List Name) (from : Loader) (name : Name) → (load_under p under from name).fault ≡ None → MayCircle (load_under p others from name)
may_circle p under others from name e = may_at (suc (left p under)) p under others from name (omega arith) e

-- ---- a load from the file of its name

pub not_found : (p : RunFiles) (under : List Name) (from : Loader) (name : Name) → file_of p from name ≡ None → (load_under p under from name).fault ≡ Some NoClassDefFoundError
not_found p under from name e =
    ap (λ (o : Outcome). o.fault) (load_level p under from name)
    ∙ ap (λ (o : Option ClassFile). (on_found (load_under p) p under name o).fault) e

-- A name under way whose file is found is circular.
pub circle_here : (p : RunFiles) (under : List Name) (from : Loader) (name : Name) (file : ClassFile) → file_of p from name ≡ Some file → is_among name under ≡ true → IsCircular (load_under p under from name)
circle_here p under from name file e at =
    ap (λ (o : Outcome). o.fault) (load_level p under from name)
    ∙ (ap (λ (o : Option ClassFile). (on_found (load_under p) p under name o).fault) e
    ∙ ap (λ (b : Bool). (if b then fails ClassCircularityError else begins name (on_reading (load_under p) p under name file.loader (reading_of file.bytes))).fault) at)

-- A class of this name, which isn't under way, ends as what it is based on.
by_bases : (p : RunFiles) (under : List Name) (from : Loader) (name : Name) (file : ClassFile) (tree : ClassTree) → file_of p from name ≡ Some file → is_among name under ≡ false
    → reading_of file.bytes ≡ IsClass tree → bytes_eq (own_name tree) name ≡ true
    → (load_under p under from name).fault ≡ (and_then (loads_bases (load_under p) p under name file.loader (bases_of tree)) (completes name)).fault
by_bases p under from name file tree e new spells named =
    ap (λ (o : Outcome). o.fault) (load_level p under from name)
    ∙ (ap (λ (o : Option ClassFile). (on_found (load_under p) p under name o).fault) e
    ∙ (ap (λ (b : Bool). (if b then fails ClassCircularityError else begins name (on_reading (load_under p) p under name file.loader (reading_of file.bytes))).fault) new
    ∙ (ap (λ (r : Reading). (on_reading (load_under p) p under name file.loader r).fault) spells
    ∙ ap (λ (b : Bool). (if b then and_then (loads_bases (load_under p) p under name file.loader (bases_of tree)) (completes name) else fails NoClassDefFoundError).fault) named)))

-- ---- the way from a name under way to the one that the recursion has come to

-- A step of the way: where the next name is circular, so is this one.
module _ (p : RunFiles) (under : List Name) (from : Loader) (name : Name) (file : ClassFile) (tree : ClassTree) (before : List Base) (base : Base) (behind : List Base)
    (found : file_of p from name ≡ Some file) (spells : reading_of file.bytes ≡ IsClass tree) (named : bytes_eq (own_name tree) name ≡ true)
    (split : bases_of tree ≡ before ++ base ∷ behind) (fine : (loads_bases (load_under p) p under name file.loader before).fault ≡ None) where
  step_new : (others : List Name) (other : Loader) → file_of p other name ≡ Some file → is_among name others ≡ false
      → IsCircular (load_under p (name ∷ others) file.loader base.name) → IsCircular (load_under p others other name)
  step_new others other at new h =
      by_bases p others other name file tree at new spells named
      ∙ and_some (loads_bases (load_under p) p others name file.loader (bases_of tree)) (completes name) ClassCircularityError
      (ap (λ (bases : List Base). (loads_bases (load_under p) p others name file.loader bases).fault) split
      ∙ circle_behind (loads_base (load_under p) p under name file.loader) (loads_base (load_under p) p others name file.loader)
      (may_base (load_under p) (load_under p) p under others name file.loader (λ l m. may_circle p (name ∷ under) (name ∷ others) l m))
      before base behind fine
      (and_some (load_under p (name ∷ others) file.loader base.name) (tests p name file.loader base) ClassCircularityError h))

  same_file : (other : Loader) (f : ClassFile) → file_of p other name ≡ Some f → file_of p other name ≡ Some file
  same_file other f at =
      let i : file_of p App name ≡ Some file = file_from_app p from name file found in
      let j : file_of p App name ≡ Some f = file_from_app p other name f at in
      cc

  step : (others : List Name) (other : Loader) (f : ClassFile) → file_of p other name ≡ Some f
      → IsCircular (load_under p (name ∷ others) file.loader base.name) → IsCircular (load_under p others other name)
  step others other f at h = go (is_among name others) refl
    where
      go : (b : Bool) → is_among name others ≡ b → IsCircular (load_under p others other name)
      go true is = circle_here p others other name f at is
      go false is = step_new others other (same_file other f at) is h

-- Each of these names is circular where `last` is under way, or is the name itself.
abbrev pub AllCircle : RunFiles → Name → List Name → Type 0
AllCircle p last names = (u : Name) (others : List Name) (from : Loader) (file : ClassFile) → is_among u names ≡ true → is_among last (u ∷ others) ≡ true → file_of p from u ≡ Some file
    → IsCircular (load_under p others from u)

circle_one : (p : RunFiles) (last name : Name) (under : List Name) → ((others : List Name) (from : Loader) (file : ClassFile) → is_among last (name ∷ others) ≡ true → file_of p from name ≡ Some file
    → IsCircular (load_under p others from name)) → AllCircle p last under → AllCircle p last (name ∷ under)
circle_one p last name under here below u others from file at h found = go (bytes_eq u name) refl
  where
    go : (b : Bool) → bytes_eq u name ≡ b → IsCircular (load_under p others from u)
    go true is = let i : name ≡ u = sym ((bytes_eq-Decides u name).0 is) in
        subst (λ (n : Name). is_among last (n ∷ others) ≡ true → file_of p from n ≡ Some file → IsCircular (load_under p others from n)) i (here others from file) h found
    go false is = below u others from file (among_tail u name under at is) h found

-- Where the name that the recursion has come to is circular under itself, so is each name on the way to it.
pub all_circle : (p : RunFiles) (last : Name) (under : List Name) (from : Loader) (name : Name) → Reaches p under from name
    → ((others : List Name) → is_among last others ≡ true → IsCircular (load_under p others from name)) → AllCircle p last under
all_circle p last under from name (Start first asked) h = λ u others l file at. absurd (cc)
all_circle p last under from name (Below older asking user file tree before base behind r found new spells named split fine) h =
    circle_one p last user older
    (λ others other f at is. step p older asking user file tree before base behind found spells named split fine others other f is (h (user ∷ others) at))
    (all_circle p last older asking user r (λ others at. step p older asking user file tree before base behind found spells named split fine others asking file found (h (user ∷ others) (among_more last user others at))))
