-- Names that are loaded stay so where more classes are loaded, in load order and with the newest first.
use Rattle.std.proofs.Common.{◌≡◌, List, [], ◌∷◌, ◌++◌, append_assoc, Bool, true, false, ◌||◌, refl, sym, ◌∙◌, ap, subst}
use Rattle.std.specs.List.{AllByRecursion}
use Rattle.std.proofs.lemmas.List.{map-append}
use Rattle.loader_rules.specs.declared.loader.Loader.{Loader}
use Rattle.class_record.specs.declared.bases.Base.{Base}
use Rattle.class_record.specs.Files.{Name, RunFiles}
use Rattle.class_record.specs.Loading.{is_among}
use Rattle.class_record.specs.Facts.{Facts, name_of, names_of}
use Rattle.class_record.specs.Orders.{IsBase}
use Rattle.class_record.proofs.Orders.{among_appended}
use Rattle.class_record.proofs.Newest.{among_newest}
use Rattle.loaded_classes.specs.Table.{ClassTable}
use Rattle.class_linker.specs.declared.under_way.Frame.{Frame}
use Rattle.class_linker.specs.Kept.{names_loaded, GrowsTo}
use Rattle.class_linker.specs.Rights.{order_of, AreFramesOf}

or_false : (a : Bool) → (a || false) ≡ a
or_false true = refl
or_false false = refl

-- ---- the newest first

-- The order holds the names that are loaded.
pub among_order : (n : Name) (t : ClassTable) → is_among n (order_of t) ≡ is_among n (names_loaded t)
among_order n t = among_newest n t.classes

-- ---- more classes

true_or : (a b : Bool) → a ≡ true → (a || b) ≡ true
true_or true b h = refl
true_or false b h = cc

pub among_front : (n : Name) (xs ys : List Name) → is_among n xs ≡ true → is_among n (xs ++ ys) ≡ true
among_front n xs ys h = among_appended n xs ys ∙ true_or (is_among n xs) (is_among n ys) h

pub loaded_stays : (t u : ClassTable) → GrowsTo t u → (n : Name) → is_among n (names_loaded t) ≡ true → is_among n (names_loaded u) ≡ true
loaded_stays t u g n h =
    ap (λ (fs : List Facts). is_among n (names_of fs)) g.classes
    ∙ ap (is_among n) (map-append name_of t.classes g.more)
    ∙ among_front n (names_loaded t) (names_of g.more) h

pub order_stays : (t u : ClassTable) → GrowsTo t u → (n : Name) → is_among n (order_of t) ≡ true → is_among n (order_of u) ≡ true
order_stays t u g n h = among_order n u ∙ loaded_stays t u g n (sym (among_order n t) ∙ h)

base_stays : (p : RunFiles) (t u : ClassTable) (name : Name) (loader : Loader) → GrowsTo t u → (b : Base) → IsBase p (order_of t) name loader b → IsBase p (order_of u) name loader b
base_stays p t u name loader g b k = record { loaded = order_stays t u g b.name k.loaded; same = k.same; passes = k.passes }

bases_stay : (p : RunFiles) (t u : ClassTable) (name : Name) (loader : Loader) → GrowsTo t u → (bs : List Base) → AllByRecursion (IsBase p (order_of t) name loader) bs → AllByRecursion (IsBase p (order_of u) name loader) bs
bases_stay p t u name loader g [] h = tt
bases_stay p t u name loader g (b ∷ bs) h = (base_stays p t u name loader g b h.0, bases_stay p t u name loader g bs h.1)

-- What is done of the classes under way stays so.
pub frames_stay : (p : RunFiles) (t u : ClassTable) → GrowsTo t u → (fs : List Frame) → AreFramesOf p t fs → AreFramesOf p u fs
frames_stay p t u g [] h = tt
frames_stay p t u g (f ∷ fs) h = (bases_stay p t u f.name f.loader g _ h.0, frames_stay p t u g fs h.1)

-- ---- one growth and then another

pub grows_not : (t : ClassTable) → GrowsTo t t
grows_not t = record { more = []; classes = sym (nil t.classes); linked = λ id. refl; words = λ id k. refl }
  where
    nil : (fs : List Facts) → fs ++ [] ≡ fs
    nil [] = refl
    nil (f ∷ fs) = ap (λ (gs : List Facts). f ∷ gs) (nil fs)

more_classes : (xs ys zs ds es : List Facts) → ys ≡ xs ++ ds → zs ≡ ys ++ es → zs ≡ xs ++ (ds ++ es)
more_classes xs ys zs ds es h k = k ∙ ap (λ (fs : List Facts). fs ++ es) h ∙ append_assoc xs ds es

pub grows_both : (t u v : ClassTable) → GrowsTo t u → GrowsTo u v → GrowsTo t v
grows_both t u v g h = record {
  more = g.more ++ h.more;
  classes = more_classes t.classes u.classes v.classes g.more h.more g.classes h.classes;
  linked = λ id. h.linked id ∙ g.linked id;
  words = λ id k. h.words id k ∙ g.words id k;
}

pub grows_same : (t u : ClassTable) → u ≡ t → GrowsTo t u
grows_same t u e = subst (GrowsTo t) (sym e) (grows_not t)
