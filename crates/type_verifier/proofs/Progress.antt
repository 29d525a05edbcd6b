-- The methods of a class, one after the other.
use Rattle.std.proofs.Common.{◌≡◌, ℕ, ◌+◌, ◌≤◌, List, [], ◌++◌, length, drop, Option, None, Some, refl, sym, ap, ◌∙◌, append_assoc}
use Rattle.std.proofs.lemmas.List.{append-nil, drop_all}
use Rattle.std.specs.Prelude.{slice_get}
use Rattle.class_tree.specs.declared.tree.ClassTree.{ClassTree}
use Rattle.class_tree.specs.declared.tree.MethodTree.{MethodTree}
use Rattle.loader_rules.specs.declared.loader.Loader.{Loader}
use Rattle.verify_rules.specs.declared.ask.Ask.{Ask}
use Rattle.verify_rules.specs.Superclasses.{Superclass}
use Rattle.verify_rules.specs.declared.checking.Checked.{Checked}
use Rattle.verify_rules.specs.Classes.{place, before_methods, found_before, found_in, methods_checked}
use Rattle.type_verifier.proofs.Numbering.{drop_item}

-- What is found of the rest, behind the questions asked by now, is what is found of the whole.
pub record Checking (whole rest : Checked) (mid : List Ask) : Type 0 where
  pub asks : whole.asks ≡ mid ++ rest.asks
  pub fault : whole.fault ≡ rest.fault

pub checking_here : (c : Checked) → Checking c c []
checking_here c = record { asks = refl; fault = refl }

module _ (whole : Checked) (k : ℕ) (rest : Checked) (mid new : List Ask) where
  on_at : (asks : List Ask) (o : Option ℕ) → whole.asks ≡ mid ++ (before_methods k asks o rest).asks → whole.fault ≡ (before_methods k asks o rest).fault → new ≡ mid ++ asks → None ≡ o → Checking whole rest new
  on_at asks None a f e h = record { asks = a ∙ sym (append_assoc mid asks rest.asks) ∙ ap (λ (l : List Ask). l ++ rest.asks) (sym e); fault = f }
  on_at asks (Some pc) a f e h = absurd cc

  stop_at : (asks : List Ask) (o : Option ℕ) (pc : ℕ) → whole.asks ≡ mid ++ (before_methods k asks o rest).asks → whole.fault ≡ (before_methods k asks o rest).fault → new ≡ mid ++ asks → Some pc ≡ o → (new ≡ whole.asks) × (Some (place k pc) ≡ whole.fault)
  stop_at asks None pc a f e h = absurd cc
  stop_at asks (Some q) pc a f e h = let s : pc ≡ q = cc in (e ∙ sym a, rw s (sym f))

module _ (t : ClassTree) (loader : Loader) (supers : List Superclass) (methods : List MethodTree) (k : ℕ) (m : MethodTree) (is : slice_get methods k ≡ Some m) (whole : Checked) (mid new : List Ask) where
  here : methods_checked t loader supers k (drop k methods) ≡ found_before k (found_in t loader supers m m.code) (methods_checked t loader supers (k + 1) (drop (k + 1) methods))
  unfolding methods_checked
  here = rw (drop_item methods k m is) refl

  pub method_on : Checking whole (methods_checked t loader supers k (drop k methods)) mid → new ≡ mid ++ (found_in t loader supers m m.code).asks → None ≡ (found_in t loader supers m m.code).fault → Checking whole (methods_checked t loader supers (k + 1) (drop (k + 1) methods)) new
  method_on c e h =
      on_at whole k (methods_checked t loader supers (k + 1) (drop (k + 1) methods)) mid new (found_in t loader supers m m.code).asks (found_in t loader supers m m.code).fault (rw here at c.asks) (rw here at c.fault) e h

  pub method_stop : (pc : ℕ) → Checking whole (methods_checked t loader supers k (drop k methods)) mid → new ≡ mid ++ (found_in t loader supers m m.code).asks → Some pc ≡ (found_in t loader supers m m.code).fault → record { asks = new; fault = Some (place k pc) } ≡ whole
  method_stop pc c e h =
      let s = stop_at whole k (methods_checked t loader supers (k + 1) (drop (k + 1) methods)) mid new (found_in t loader supers m m.code).asks (found_in t loader supers m m.code).fault pc (rw here at c.asks) (rw here at c.fault) e h in
      rw (s.0, s.1) refl

pub methods_end : (t : ClassTree) (loader : Loader) (supers : List Superclass) (methods : List MethodTree) (k : ℕ) (whole : Checked) (mid : List Ask) → length methods ≤ k → Checking whole (methods_checked t loader supers k (drop k methods)) mid → record { asks = mid; fault = None } ≡ whole
unfolding methods_checked
methods_end t loader supers methods k whole mid le c =
    let a : whole.asks ≡ mid ++ [] = rw (drop_all k methods le) at c.asks in
    let f : whole.fault ≡ None = rw (drop_all k methods le) at c.fault in
    rw (← append-nil mid, ← a, ← f) refl
