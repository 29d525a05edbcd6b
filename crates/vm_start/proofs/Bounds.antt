-- A loaded class has few members.
use Rattle.std.proofs.Common.{◌≡◌, ℕ, zero, suc, ◌<◌, ◌^◌, List, [], ◌∷◌, ◌++◌, length, Option, Some, None, slice_get, refl, sym, subst, arith}
use Rattle.std.specs.Prelude.{reverse}
use Rattle.std.specs.List.{AllByRecursion}
use Rattle.std.proofs.lemmas.List.{reverse-append, reverse-reverse}
use Rattle.class_record.specs.Ancestors.{newest}
use Rattle.class_record.specs.Built.{AreBuilt}
use Rattle.class_record.specs.Facts.{Facts, interfaces_at}
use Rattle.vm_start.specs.Asked.{fields_at, methods_at}

-- ---- lists

all_append : {A : Type 0} (P : A → Type 0) (xs ys : List A) → AllByRecursion P xs → AllByRecursion P ys → AllByRecursion P (xs ++ ys)
all_append P [] ys h k = k
all_append P (x ∷ xs) ys h k = (h.0, all_append P xs ys h.1 k)

all_reversed : {A : Type 0} (P : A → Type 0) (xs : List A) → AllByRecursion P xs → AllByRecursion P (reverse xs)
all_reversed P [] h = tt
all_reversed P (x ∷ xs) h = subst (AllByRecursion P) (sym (reverse-append (x ∷ []) xs)) (all_append P (reverse xs) (x ∷ []) (all_reversed P xs h.1) (h.0, tt))

pub all_at : {A : Type 0} (P : A → Type 0) (xs : List A) (k : ℕ) (x : A) → AllByRecursion P xs → slice_get xs k ≡ Some x → P x
all_at P [] k x h e = absurd cc
all_at P (y ∷ xs) zero x h e = let s : y ≡ x = cc in subst P s h.0
all_at P (y ∷ xs) (suc k) x h e = all_at P xs k x h.1 e

-- ---- the members of a class

record IsSmall (f : Facts) : Type 0 where
  interfaces : length f.interfaces < 2 ^ 16
  fields : length f.fields < 2 ^ 16
  methods : length f.methods < 2 ^ 16

all_small : (fs : List Facts) → AreBuilt fs → AllByRecursion IsSmall fs
all_small [] b = tt
all_small (f ∷ older) b = (record { interfaces = b.0.interface_count; fields = b.0.field_count; methods = b.0.method_count }, all_small older b.1)

are_small : (fs : List Facts) → AreBuilt (newest fs) → AllByRecursion IsSmall fs
are_small fs b = subst (AllByRecursion IsSmall) (reverse-reverse fs) (all_reversed IsSmall (newest fs) (all_small (newest fs) b))

-- how many there are of each, where there is such a class
pub record HasFew (fs : List Facts) (id : ℕ) : Type 0 where
  pub interfaces : length (interfaces_at fs id) < 2 ^ 16
  pub fields : length (fields_at fs id) < 2 ^ 16
  pub methods : length (methods_at fs id) < 2 ^ 16

few_by : (fs : List Facts) (id : ℕ) → AllByRecursion IsSmall fs → (o : Option Facts) → slice_get fs id ≡ o → HasFew fs id
few_by fs id h None e = record { interfaces = rw e (omega arith); fields = rw e (omega arith); methods = rw e (omega arith) }
few_by fs id h (Some f) e =
    let s = all_at IsSmall fs id f h e in
    record { interfaces = rw e s.interfaces; fields = rw e s.fields; methods = rw e s.methods }

pub has_few : (fs : List Facts) (id : ℕ) → AreBuilt (newest fs) → HasFew fs id
has_few fs id b = few_by fs id (are_small fs b) (slice_get fs id) refl
