-- The required classes are linked, one after the other, and what stays.
use Rattle.std.proofs.Common.{◌≡◌, ℕ, zero, suc, ◌+◌, ◌<◌, ◌≤◌, List, [], ◌∷◌, ◌++◌, length, Bool, true, if◌then◌else◌, Option, Some, None, Result, Ok, Err, slice_get, refl, sym, subst, ◌∙◌, ap, inl, inr, arith}
use Rattle.std.proofs.lemmas.Bool.{cases_lt, eq-eqb}
use Rattle.class_record.specs.declared.fault.ClassesFault.{ClassesFault}
use Rattle.class_record.specs.Files.{Name}
use Rattle.class_record.specs.Facts.{Facts, names_of}
use Rattle.class_record.specs.Calls.{LinksOne}
use Rattle.class_record.specs.declared.start.Start.{Start}
use Rattle.class_record.specs.declared.start.Start.TheVariants as starts
use Rattle.class_record.specs.Required.{Required, required}
use Rattle.class_record.specs.Starting.{IsLinkedClass, LinksRequired}
use Rattle.vm_start.specs.Table.{numbered}

-- ---- what grows

named_left : (fs more : List Facts) (id : ℕ) (name : Name) → slice_get (names_of fs) id ≡ Some name → slice_get (names_of (fs ++ more)) id ≡ Some name
named_left [] more id name h = absurd cc
named_left (f ∷ fs) more zero name h = h
named_left (f ∷ fs) more (suc id) name h = named_left fs more id name h

pub named_on : (a b : List Facts) (id : ℕ) (name : Name) → ((more : List Facts) × (b ≡ a ++ more)) → slice_get (names_of a) id ≡ Some name → slice_get (names_of b) id ≡ Some name
named_on a b id name grows h = ap (λ (fs : List Facts). slice_get (names_of fs) id) grows.1 ∙ named_left a grows.0 id name h

longer : (fs more : List Facts) (id : ℕ) → id < length fs → id < length (fs ++ more)
longer [] more id h = absurd (omega (arith, h))
longer (f ∷ fs) more zero h = omega arith
longer (f ∷ fs) more (suc id) h = let s : id < length (fs ++ more) = longer fs more id (omega (arith, h)) in omega (arith, s)

pub within_grown : (a b : List Facts) (id : ℕ) → ((more : List Facts) × (b ≡ a ++ more)) → id < length a → id < length b
within_grown a b id grows h = rw grows.1 (longer a grows.0 id h)

-- ---- the class of an Ok link

pub is_linked : (before now : ℕ → Bool) (id : ℕ) → LinksOne before now id (Ok None) → now id ≡ true
is_linked before now id h = h id ∙ ap (λ (b : Bool). if b then true else before id) (eq-eqb id id refl)

-- ---- along the required classes

pub linked_on : (a b : List Facts) (before now : ℕ → Bool) (name : Name) → ((more : List Facts) × (b ≡ a ++ more)) → ((id : ℕ) → before id ≡ true → now id ≡ true)
    → IsLinkedClass (names_of a) before name → IsLinkedClass (names_of b) now name
linked_on a b before now name grows still h = (h.0, named_on a b h.0 name grows h.1, still h.0 h.2)

-- Those that were linked stay so, and the next one is linked too.
pub row_linked : (a b : List Facts) (before now : ℕ → Bool) (number : ℕ) (r : Required) → Some r ≡ numbered number → ((more : List Facts) × (b ≡ a ++ more)) → ((id : ℕ) → before id ≡ true → now id ≡ true)
    → LinksRequired (names_of a) before (Ok (starts.NoBoot number)) → IsLinkedClass (names_of b) now r.name → LinksRequired (names_of b) now (Ok (starts.NoBoot (number + 1)))
row_linked a b before now zero r e grows still h last = absurd cc
row_linked a b before now (suc n) r e grows still h last = λ k s l is. elim (cases_lt k n) [
  | inl less ↦ linked_on a b before now s.name grows still (h k s (omega (arith, less)) is)
  | inr more ↦
      let same : k ≡ n = omega (arith, l, more) in
      let first : Some s ≡ Some r = sym is ∙ ap (slice_get required) same ∙ sym e in
      let is_row : r ≡ s = cc in
      subst (λ (t : Required). IsLinkedClass (names_of b) now t.name) is_row last
]

pub rows_still : (a b : List Facts) (before now : ℕ → Bool) (number : ℕ) → ((more : List Facts) × (b ≡ a ++ more)) → ((id : ℕ) → before id ≡ true → now id ≡ true)
    → LinksRequired (names_of a) before (Ok (starts.NoBoot number)) → LinksRequired (names_of b) now (Ok (starts.NoBoot number))
rows_still a b before now number grows still h = λ k r l is. linked_on a b before now r.name grows still (h k r l is)

-- ---- where none is wanting

before_end : (rs : List Required) (n k : ℕ) (r : Required) → None ≡ slice_get rs n → slice_get rs k ≡ Some r → k < n
before_end [] n k r e h = absurd cc
before_end (x ∷ rs) zero k r e h = absurd cc
before_end (x ∷ rs) (suc n) zero r e h = omega arith
before_end (x ∷ rs) (suc n) (suc k) r e h = let s : k < n = before_end rs n k r e h in omega (arith, s)

all_below : (number k : ℕ) (r : Required) → 1 ≤ number → None ≡ numbered number → slice_get required k ≡ Some r → k + 1 < number
all_below zero k r l e h = absurd (omega (arith, l))
all_below (suc n) k r l e h = let s : k < n = before_end required n k r e h in omega (arith, s)

all_linked : (order : List Name) (linked : ℕ → Bool) (result : Result Start ClassesFault) → ((k : ℕ) (r : Required) → slice_get required k ≡ Some r → IsLinkedClass order linked r.name)
    → LinksRequired order linked result
all_linked order linked (Ok (starts.NoBoot number)) h = λ k r l is. h k r is
all_linked order linked (Ok starts.NoMain) h = h
all_linked order linked (Ok (starts.Ready id)) h = h
all_linked order linked (Err fault) h = tt

pub rows_end : (a b : List Facts) (before now : ℕ → Bool) (number : ℕ) (result : Result Start ClassesFault) → 1 ≤ number → None ≡ numbered number → ((more : List Facts) × (b ≡ a ++ more)) → ((id : ℕ) → now id ≡ before id)
    → LinksRequired (names_of a) before (Ok (starts.NoBoot number)) → LinksRequired (names_of b) now result
rows_end a b before now number result l e grows same h =
    all_linked (names_of b) now result (λ k r is. linked_on a b before now r.name grows (λ id j. same id ∙ j) (h k r (all_below number k r l e is) is))

-- ---- where a class was taken from

pub taken_still : (a b : List Facts) (old mid new : ℕ → Option ℕ) → ((more : List Facts) × (b ≡ a ++ more)) → ((id : ℕ) → id < length a → mid id ≡ old id) → ((id : ℕ) → id < length b → new id ≡ mid id)
    → (id : ℕ) → id < length a → new id ≡ old id
taken_still a b old mid new grows h k id l = k id (within_grown a b id grows l) ∙ h id l
