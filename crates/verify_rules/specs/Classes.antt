-- A class: what it must not override, and its methods in their order (JVM Specification SE 8, 4.10, 5.4.5).
use Rattle.std.specs.Prelude.{ℕ, ◌+◌, Bool, false, cond, not, ◌&&◌, ◌||◌, List, [], ◌∷◌, ◌++◌, Option, Some, None}
use Rattle.std.specs.List.{list_any}
use Rattle.class_tree.specs.declared.tree.ClassTree.{ClassTree}
use Rattle.class_tree.specs.declared.tree.MethodTree.{MethodTree}
use Rattle.class_tree.specs.declared.tree.CodeTree.{CodeTree}
use Rattle.class_tree.specs.Flags.{is_public, is_private, is_protected, is_static, is_final}
use Rattle.class_tree.specs.WellFormed.{text_of, are_equal}
use Rattle.loader_rules.specs.declared.loader.Loader.{Loader}
use Rattle.loader_rules.specs.Packages.{share_package}
use Rattle.verify_rules.specs.declared.ask.Ask.{Ask}
use Rattle.class_tree.specs.ClassNames.{own_name}
use Rattle.verify_rules.specs.declared.checking.Checked.{Checked}
use Rattle.verify_rules.specs.declared.checking.Place.{Place}
use Rattle.verify_rules.specs.Superclasses.{Superclass, Member}
use Rattle.verify_rules.specs.Methods.{Found, method_found}

-- ---- final classes and methods

-- a class by its name and its loader
pub record Origin : Type 0 where
  pub name : List ℕ
  pub loader : Loader

abbrev pub origin : Superclass → Origin
origin c = record { name = c.name; loader = c.loader }

abbrev pub is_same_signature : ClassTree → MethodTree → Member → Bool
is_same_signature t m upper = are_equal (text_of t.pool m.name) (Some upper.name) && are_equal (text_of t.pool m.desc) (Some upper.desc)

abbrev pub shares_with : Superclass → Origin → Bool
shares_with c lower = share_package lower.name lower.loader c.name c.loader

-- A method of a superclass is overridden by one of these classes: it is public or protected, or neither private nor static
-- and of the run-time package of one of them.
abbrev pub is_overridden : List Origin → Superclass → Member → Bool
is_overridden lower c upper =
    not (is_private upper.flags || is_static upper.flags) && (is_public upper.flags || is_protected upper.flags || list_any (shares_with c) lower)

-- the method of a superclass that a method overrides
abbrev pub overridden_in : ClassTree → MethodTree → List Origin → Superclass → List Member → Option Member
overridden_in t m lower c [] = None
overridden_in t m lower c (upper ∷ others) = cond (is_same_signature t m upper && is_overridden lower c upper) (Some upper) (overridden_in t m lower c others)

abbrev pub overridden_by : Option Member → Superclass → List Origin → (List Origin → Bool) → Bool
overridden_by None c lower above = above lower
overridden_by (Some upper) c lower above = is_final upper.flags || above (origin c ∷ lower)

-- A method overrides a final one of these superclasses, from the lowest up: itself, or by one that it overrides. `lower` are the classes whose
-- methods do.
unfoldable pub overrides_final : ClassTree → MethodTree → List Origin → List Superclass → Bool
overrides_final t m lower [] = false
overrides_final t m lower (c ∷ supers) = overridden_by (overridden_in t m lower c c.methods) c lower (λ classes. overrides_final t m classes supers)

-- a method that is neither private nor static
abbrev pub may_override : MethodTree → Bool
may_override m = not (is_private m.flags || is_static m.flags)

abbrev pub breaks_final_method : ClassTree → Loader → List Superclass → MethodTree → Bool
breaks_final_method t loader supers m = may_override m && overrides_final t m (record { name = own_name t; loader = loader } ∷ []) supers

abbrev pub has_final_superclass : List Superclass → Bool
has_final_superclass [] = false
has_final_superclass (c ∷ supers) = is_final c.flags

-- The direct superclass is final, or a method overrides a final one.
unfoldable pub breaks_final : ClassTree → Loader → List Superclass → Bool
breaks_final t loader supers = has_final_superclass supers || list_any (breaks_final_method t loader supers) t.methods

-- ---- the methods

abbrev pub place : ℕ → ℕ → Place
place method pc = record { method = method; pc = pc }

abbrev pub before_methods : ℕ → List Ask → Option ℕ → Checked → Checked
before_methods k asks (Some pc) rest = record { asks = asks; fault = Some (place k pc) }
before_methods k asks None rest = record { asks = asks ++ rest.asks; fault = rest.fault }

abbrev pub found_in : ClassTree → Loader → List Superclass → MethodTree → Option CodeTree → Found
found_in t loader supers m None = record { asks = []; fault = None }
found_in t loader supers m (Some code) = method_found (record { tree = t; loader = loader; supers = supers; method = m; code = code })

abbrev pub found_before : ℕ → Found → Checked → Checked
found_before k found rest = before_methods k found.asks found.fault rest

-- The methods from the one of a number on, up to the first fault. One without code has nothing to type.
unfoldable pub methods_checked : ClassTree → Loader → List Superclass → ℕ → List MethodTree → Checked
methods_checked t loader supers k [] = record { asks = []; fault = None }
methods_checked t loader supers k (m ∷ methods) = found_before k (found_in t loader supers m m.code) (methods_checked t loader supers (k + 1) methods)

-- ---- the class

-- A fault of the class itself stands at method 0 and place 0, before all questions.
unfoldable pub class_checked : ClassTree → Loader → List Superclass → Checked
class_checked t loader supers =
    cond (breaks_final t loader supers) (record { asks = []; fault = Some (place 0 0) }) (methods_checked t loader supers 0 t.methods)
