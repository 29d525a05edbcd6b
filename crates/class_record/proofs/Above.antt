-- What stands above a class that loads: so many steps upwards as there are classes are enough, and the facts of loaded
-- classes say the same as their files.
use Rattle.std.proofs.Common.{◌≡◌, ℕ, ◌+◌, ◌≤◌, zero, suc, add-one, List, [], ◌∷◌, ◌++◌, length, map, Bool, true, false, if◌then◌else◌, Option, Some, None, refl, sym, ◌∙◌, ap, subst, arith}
use Rattle.std.specs.List.{flat_map, AllByRecursion}
use Rattle.std.specs.Option.{IfSome, option_map, option_to_list}
use Rattle.std.specs.Str.{bytes_eq}
use Rattle.std.specs.FinMap.{len}
use Rattle.jsa_base.proofs.Codecs.{some_is}
use Rattle.class_tree.specs.declared.tree.ClassTree.{ClassTree}
use Rattle.loader_rules.specs.declared.loader.Loader.{Loader}
use Rattle.loader_rules.specs.declared.loader.Loader.TheVariants.{App}
use Rattle.class_record.specs.declared.bases.BaseKind.TheVariants.{Superclass, Superinterface}
use Rattle.class_record.specs.Files.{Name, RunFiles}
use Rattle.class_record.specs.Readings.{Reading, tree_in}
use Rattle.class_tree.specs.ClassNames.{sup_name, interface_names}
use Rattle.class_record.specs.Trees.{base_of}
use Rattle.class_record.specs.Loading.{FoundClass, found_in, class_of, is_among, appended}
use Rattle.class_record.specs.Ancestors.{supers_by, of_super, up_to_interface, superinterfaces_by, supers_in, superinterfaces_in, sup_in, interfaces_in, supers_up, superinterfaces_up, supers, superinterfaces}
use Rattle.class_record.specs.Facts.{Facts, names_of}
use Rattle.class_record.specs.Records.{facts_of, size_above, record_of}
use Rattle.class_record.specs.Built.{AreBuilt}
use Rattle.class_record.specs.Orders.{IsBase, IsLoaded, IsOrder}
use Rattle.class_record.specs.Laws.{AreRecorded, AncestorsAgree}
use Rattle.class_record.proofs.Orders.{same_name, unlike_too}
use Rattle.class_record.proofs.Again.{among_tail}
use Rattle.class_record.proofs.Recorded.{IsAmong, HasBasesAmong, StandOnOlder, recorded_bases, built_stand, built_within}

-- ---- names

-- two functions that agree on these names
abbrev pub AgreeOn : List Name → (Name → List Name) → (Name → List Name) → Type 0
AgreeOn names f g = (n : Name) → IsAmong names n → f n ≡ g n

supers_same : (names : List Name) (f g : Name → List Name) → AgreeOn names f g → (sup : Option Name) → IfSome sup (IsAmong names) → supers_by f sup ≡ supers_by g sup
supers_same names f g agree None h = refl
supers_same names f g agree (Some s) h = ap (λ (ns : List Name). s ∷ ns) (agree s h)

super_same : (names : List Name) (f g : Name → List Name) → AgreeOn names f g → (sup : Option Name) → IfSome sup (IsAmong names) → of_super f sup ≡ of_super g sup
super_same names f g agree None h = refl
super_same names f g agree (Some s) h = agree s h

interfaces_same : (names : List Name) (f g : Name → List Name) → AgreeOn names f g → (ns : List Name) → AllByRecursion (IsAmong names) ns
    → flat_map (up_to_interface f) ns ≡ flat_map (up_to_interface g) ns
interfaces_same names f g agree [] h = refl
interfaces_same names f g agree (n ∷ ns) h =
    ap (λ (xs : List Name). (xs ++ n ∷ []) ++ flat_map (up_to_interface f) ns) (agree n h.0)
    ∙ ap (λ (xs : List Name). (g n ++ n ∷ []) ++ xs) (interfaces_same names f g agree ns h.1)

superinterfaces_same : (names : List Name) (f g : Name → List Name) → AgreeOn names f g → (sup : Option Name) (ns : List Name) → IfSome sup (IsAmong names)
    → AllByRecursion (IsAmong names) ns → superinterfaces_by f sup ns ≡ superinterfaces_by g sup ns
superinterfaces_same names f g agree sup ns h k =
    ap (λ (xs : List Name). appended [] (xs ++ flat_map (up_to_interface f) ns)) (super_same names f g agree sup h)
    ∙ ap (λ (xs : List Name). appended [] (of_super g sup ++ xs)) (interfaces_same names f g agree ns k)

-- ---- a loaded class

pub loaded_class : (p : RunFiles) (older : List Name) (name : Name) (k : IsLoaded p older name) → class_of p App name ≡ Some (record { file = k.file; tree = k.tree })
loaded_class p older name k =
    ap found_in k.found ∙ ap (λ (r : Reading). option_map (λ (tree : ClassTree). the_class tree) (tree_in r)) k.spells
  where
    the_class : ClassTree → FoundClass
    the_class tree = record { file = k.file; tree = tree }

module _ (p : RunFiles) (older : List Name) (name : Name) (loader : Loader) where
  interfaces_loaded : (ns : List Name) → AllByRecursion (IsBase p older name loader) (map (base_of Superinterface) ns) → AllByRecursion (IsAmong older) ns
  interfaces_loaded [] h = tt
  interfaces_loaded (n ∷ ns) h = (h.0.loaded, interfaces_loaded ns h.1)

  bases_loaded : (sup : Option Name) (ns : List Name)
      → AllByRecursion (IsBase p older name loader) (map (base_of Superclass) (option_to_list sup) ++ map (base_of Superinterface) ns) → HasBasesAmong older sup ns
  bases_loaded None ns h = record { sup_among = tt; all_among = interfaces_loaded ns h }
  bases_loaded (Some s) ns h = record { sup_among = h.0.loaded; all_among = interfaces_loaded ns h.1 }

pub tree_bases : (p : RunFiles) (older : List Name) (name : Name) (k : IsLoaded p older name) → HasBasesAmong older (sup_name k.tree) (interface_names k.tree)
tree_bases p older name k = bases_loaded p older name k.file.loader (sup_name k.tree) (interface_names k.tree) k.bases

class_bases : (p : RunFiles) (older : List Name) (name : Name) → IsLoaded p older name → HasBasesAmong older (sup_in (class_of p App name)) (interfaces_in (class_of p App name))
class_bases p older name k =
    subst (λ (c : Option FoundClass). HasBasesAmong older (sup_in c) (interfaces_in c)) (sym (loaded_class p older name k)) (tree_bases p older name k)

-- what the files say of a loaded class
pub loaded_record : (p : RunFiles) (older : List Name) (name : Name) (k : IsLoaded p older name)
    → record_of p name ≡ Some (facts_of k.file.loader k.file.folder (size_above p name) k.tree)
loaded_record p older name k = ap (option_map (λ (c : FoundClass). facts_of c.file.loader c.file.folder (size_above p name) c.tree)) (loaded_class p older name k)

pub facts_are : (p : RunFiles) (older : List Name) (f : Facts) (k : IsLoaded p older f.name) → record_of p f.name ≡ Some f
    → f ≡ facts_of k.file.loader k.file.folder (size_above p f.name) k.tree
facts_are p older f k h = some_is f (facts_of k.file.loader k.file.folder (size_above p f.name) k.tree) (sym h ∙ loaded_record p older f.name k)

order_stands : (p : RunFiles) (order : List Name) → IsOrder p order → StandOnOlder p order
order_stands p [] o = tt
order_stands p (name ∷ older) o = (class_bases p older name o.0, order_stands p older o.1)

-- ---- upwards, over one level that looks at what the class is based on alone

module _ (by : (Name → List Name) → Option Name → List Name → List Name) (up : ℕ → RunFiles → Name → List Name)
    (next : (n : ℕ) (p : RunFiles) (name : Name) → up (suc n) p name ≡ by (up n p) (sup_in (class_of p App name)) (interfaces_in (class_of p App name)))
    (same : (names : List Name) (f g : Name → List Name) → AgreeOn names f g → (sup : Option Name) (ns : List Name) → HasBasesAmong names sup ns → by f sup ns ≡ by g sup ns)
  where
    newest_enough : (p : RunFiles) (x : Name) (older : List Name) → HasBasesAmong older (sup_in (class_of p App x)) (interfaces_in (class_of p App x)) → ((n m : ℕ) → length older ≤ n → length older ≤ m → AgreeOn older (up n p) (up m p))
        → (n m : ℕ) → suc (length older) ≤ n → suc (length older) ≤ m → up n p x ≡ up m p x
    newest_enough p x older k hyp zero m h i = absurd (omega arith)
    newest_enough p x older k hyp (suc n) zero h i = absurd (omega arith)
    newest_enough p x older k hyp (suc n) (suc m) h i =
        next n p x
        ∙ same older (up n p) (up m p) (hyp n m (omega arith) (omega arith)) (sup_in (class_of p App x)) (interfaces_in (class_of p App x)) k
        ∙ sym (next m p x)

    -- As many steps as there are loaded classes are enough.
    enough : (p : RunFiles) (order : List Name) → StandOnOlder p order → (n m : ℕ) → length order ≤ n → length order ≤ m → AgreeOn order (up n p) (up m p)
    enough p [] o n m h i name at = absurd cc
    enough p (x ∷ older) o n m h i name at =
        by_case p x older name n m (newest_enough p x older o.0 (enough p older o.1) n m h i) (enough p older o.1 n m (omega arith) (omega arith) name) at (bytes_eq name x) refl
      where
        by_case : (p : RunFiles) (x : Name) (older : List Name) (name : Name) (n m : ℕ) → up n p x ≡ up m p x → (IsAmong older name → up n p name ≡ up m p name)
            → IsAmong (x ∷ older) name → (b : Bool) → bytes_eq name x ≡ b → up n p name ≡ up m p name
        by_case p x older name n m here below at true e = subst (λ (y : Name). up n p y ≡ up m p y) (sym (same_name name x e)) here
        by_case p x older name n m here below at false e = below (among_tail name x older at e)

    module _ (among : List Facts → Name → List Name)
        (first : (f : Facts) (older : List Facts) (name : Name) → among (f ∷ older) name ≡ (if bytes_eq f.name name then by (among older) f.sup f.interfaces else among older name))
      where
        newest_agrees : (p : RunFiles) (f : Facts) (older : List Facts) → StandOnOlder p (names_of (f ∷ older)) → length (names_of (f ∷ older)) ≤ len p.contents → record_of p f.name ≡ Some f
            → AgreeOn (names_of older) (among older) (up (len p.contents + 1) p) → by (among older) f.sup f.interfaces ≡ up (len p.contents + 1) p f.name
        newest_agrees p f older o small h agree =
            let e = recorded_bases p f h in
            ap (λ (s : Option Name). by (among older) s f.interfaces) e.0
            ∙ ap (λ (ns : List Name). by (among older) (sup_in (class_of p App f.name)) ns) e.1
            ∙ same (names_of older) (among older) (up (len p.contents) p)
            (λ n at. agree n at ∙ enough p (names_of older) o.1 (len p.contents + 1) (len p.contents) (omega arith) (omega arith) n at)
            (sup_in (class_of p App f.name)) (interfaces_in (class_of p App f.name)) o.0
            ∙ sym (next (len p.contents) p f.name)
            ∙ ap (λ (n : ℕ). up n p f.name) (sym (add-one (len p.contents)))

        -- The facts of loaded classes say what their files say.
        agrees : (p : RunFiles) (facts : List Facts) → StandOnOlder p (names_of facts) → length (names_of facts) ≤ len p.contents → AreRecorded p facts
            → AgreeOn (names_of facts) (among facts) (up (len p.contents + 1) p)
        agrees p [] o small r name at = absurd cc
        agrees p (f ∷ older) o small r name at =
            first f older name
            ∙ by_case p f older name (newest_agrees p f older o small r.0 (agrees p older o.1 (omega arith) r.1)) (agrees p older o.1 (omega arith) r.1 name) at (bytes_eq f.name name) refl
          where
            by_case : (p : RunFiles) (f : Facts) (older : List Facts) (name : Name) → by (among older) f.sup f.interfaces ≡ up (len p.contents + 1) p f.name
                → (IsAmong (names_of older) name → among older name ≡ up (len p.contents + 1) p name) → IsAmong (names_of (f ∷ older)) name → (b : Bool) → bytes_eq f.name name ≡ b
                → (if b then by (among older) f.sup f.interfaces else among older name) ≡ up (len p.contents + 1) p name
            by_case p f older name here below at true e = subst (λ (y : Name). by (among older) f.sup f.interfaces ≡ up (len p.contents + 1) p y) (same_name f.name name e) here
            by_case p f older name here below at false e = below (among_tail name f.name (names_of older) at (unlike_too f.name name e))

-- ---- superclasses and superinterfaces

abbrev by_super : (Name → List Name) → Option Name → List Name → List Name
by_super above sup interfaces = supers_by above sup

pub supers_next : (n : ℕ) (p : RunFiles) (name : Name) → supers_up (suc n) p name ≡ supers_by (supers_up n p) (sup_in (class_of p App name))
unfolding supers_up
supers_next n p name = refl

pub superinterfaces_next : (n : ℕ) (p : RunFiles) (name : Name)
    → superinterfaces_up (suc n) p name ≡ superinterfaces_by (superinterfaces_up n p) (sup_in (class_of p App name)) (interfaces_in (class_of p App name))
unfolding superinterfaces_up
superinterfaces_next n p name = refl

supers_first : (f : Facts) (older : List Facts) (name : Name)
    → supers_in (f ∷ older) name ≡ (if bytes_eq f.name name then supers_by (supers_in older) f.sup else supers_in older name)
unfolding supers_in
supers_first f older name = refl

superinterfaces_first : (f : Facts) (older : List Facts) (name : Name)
    → superinterfaces_in (f ∷ older) name ≡ (if bytes_eq f.name name then superinterfaces_by (superinterfaces_in older) f.sup f.interfaces else superinterfaces_in older name)
unfolding superinterfaces_in
superinterfaces_first f older name = refl

pub supers_enough : (p : RunFiles) (order : List Name) → IsOrder p order → (n m : ℕ) → length order ≤ n → length order ≤ m → AgreeOn order (supers_up n p) (supers_up m p)
supers_enough p order o = enough by_super supers_up supers_next (λ names f g agree sup ns h. supers_same names f g agree sup h.sup_among) p order (order_stands p order o)

-- the superclasses of a loaded class
supers_agree : (p : RunFiles) (facts : List Facts) → AreBuilt facts → AreRecorded p facts → (n : Name) → is_among n (names_of facts) ≡ true → supers_in facts n ≡ supers p n
supers_agree p facts b r =
    agrees by_super supers_up supers_next (λ names f g agree sup ns h. supers_same names f g agree sup h.sup_among) supers_in supers_first
    p facts (built_stand p facts b r) (built_within p facts b r) r

-- its superinterfaces
superinterfaces_agree : (p : RunFiles) (facts : List Facts) → AreBuilt facts → AreRecorded p facts → (n : Name) → is_among n (names_of facts) ≡ true
    → superinterfaces_in facts n ≡ superinterfaces p n
superinterfaces_agree p facts b r =
    agrees superinterfaces_by superinterfaces_up superinterfaces_next (λ names f g agree sup ns h. superinterfaces_same names f g agree sup ns h.sup_among h.all_among)
    superinterfaces_in superinterfaces_first p facts (built_stand p facts b r) (built_within p facts b r) r

pub ancestors_agree : AncestorsAgree
ancestors_agree p facts name b r at = record { supers = supers_agree p facts b r name at; superinterfaces = superinterfaces_agree p facts b r name at }
