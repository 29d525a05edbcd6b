-- The parts of operands: what is read of them is spelled so, what is spelled so is read, and how many bytes they are.
use Rattle.std.proofs.Common.{rules, ◌≡◌, ℕ, ℤ, ◌+◌, ◌^◌, ◌<◌, ◌≤◌, Bool, true, false, cond, ltb, List, [], ◌∷◌, ◌++◌, length, take, drop, Some, None, refl, sym, ap, subst, ◌∙◌, arith}
use Rattle.std.proofs.lemmas.Bool.{ltb-false, ltb-true, le-ltb}
use Rattle.std.proofs.lemmas.List.{take_at, drop_at, take-append-drop, length-append, length-take, length-drop}
use Rattle.std.proofs.lemmas.Int.{to_z-of_z, of_z-to_z, ints}
use Rattle.std.specs.Prelude.{FitsSigned}
use Rattle.std.specs.Int.{w8, w16, w32, cast_signed, cast_unsigned}
use Rattle.jsa_base.specs.Reading.{◌>>=◌, IsBytes, Read, u1_at, u2_at, u4_at, bytes_at, pair_at, made}
use Rattle.jsa_base.specs.Spelling.{u1, u2, u4, s1, s2, s4}
use Rattle.jsa_base.specs.Codec.{Took, Codec}
use Rattle.jsa_base.proofs.Codecs.{bind_some, some_is, guard, IsBytes-append, byte_codec, u2_codec, u4_codec, pair_codec}
use Rattle.jsa_ops.specs.Reading.{s1_at, s2_at, s4_at}

-- ---- sizes

-- So many bytes were read, or fewer are there.
abbrev pub Sized : {A : Type 0} → ℕ → List ℕ → Read A → Type 0
Sized n bytes (Some x) = length bytes ≡ n + length x.1
Sized n bytes None = length bytes < n

-- What is read where a read of that size gives nothing, and where it gives something.
pub too_few : {A : Type 0} (n : ℕ) (bytes : List ℕ) (r : Read A) → Sized n bytes r → length bytes < n → r ≡ None
too_few n bytes (Some x) size few = absurd (omega (arith, size, few))
too_few n bytes None size few = refl

pub behind_size : {A : Type 0} (n : ℕ) (bytes : List ℕ) (r : Read A) (x : A) (rest : List ℕ) → Sized n bytes r → r ≡ Some (x, rest) → length bytes ≡ n + length rest
behind_size {A} n bytes (Some y) x rest size e = size ∙ ap (λ (z : A × List ℕ). n + length z.1) (some_is y (x, rest) e)
behind_size n bytes None x rest size e = absurd cc

pub none_is_few : {A : Type 0} (n : ℕ) (bytes : List ℕ) (r : Read A) → Sized n bytes r → r ≡ None → length bytes < n
none_is_few n bytes (Some x) size e = absurd cc
none_is_few n bytes None size e = size

-- what is read and spelled, in so many bytes
pub record Part {A : Type 0} (read : List ℕ → Read A) (spell : A → List ℕ) (Fit : A → Type 0) (n : ℕ) : Type 0 where
  pub codec : Codec read spell Fit
  pub size : (bytes : List ℕ) → Sized n bytes (read bytes)

-- ---- numbers

pub u1_part : Part u1_at u1 (λ n. n < 256) 1
u1_part = record { codec = byte_codec; size = size } where
  size : (bytes : List ℕ) → Sized 1 bytes (u1_at bytes)
  size [] = omega arith
  size (a ∷ rest) = omega arith

pub u2_part : Part u2_at u2 (λ n. n < 65536) 2
u2_part = record { codec = u2_codec; size = size } where
  size : (bytes : List ℕ) → Sized 2 bytes (u2_at bytes)
  size [] = omega arith
  size (a ∷ []) = omega arith
  size (a ∷ b ∷ rest) = omega arith

pub u4_part : Part u4_at u4 (λ n. n < 2 ^ 32) 4
u4_part = record { codec = u4_codec; size = size } where
  size : (bytes : List ℕ) → Sized 4 bytes (u4_at bytes)
  size [] = omega arith
  size (a ∷ []) = omega arith
  size (a ∷ b ∷ []) = omega arith
  size (a ∷ b ∷ c ∷ []) = omega arith
  size (a ∷ b ∷ c ∷ d ∷ rest) = omega arith

-- ---- made of a number, with a way back

made_size : {A B : Type 0} (make : A → B) (n : ℕ) (bytes : List ℕ) (r : Read A) → Sized n bytes r → Sized n bytes (r >>= λ x. Some (make x.0, x.1))
made_size make n bytes (Some x) size = size
made_size make n bytes None size = size

-- a signed number
signed_part : (read : List ℕ → Read ℕ) (s : ℕ → List ℕ) (F : ℕ → Type 0) (n : ℕ) (make : ℕ → ℤ) (back : ℤ → ℕ) (G : ℤ → Type 0) → Part read s F n
    → ((z : ℤ) → G z → make (back z) ≡ z) → ((k : ℕ) → F k → back (make k) ≡ k) → ((k : ℕ) → F k → G (make k)) → ((z : ℤ) → G z → F (back z)) → Part (made make read) (λ z. s (back z)) G n
signed_part read s F n make back G p again_is backs fits_to fits_from = record { codec = record { takes = takes; again = again; bytes = λ z fits. p.codec.bytes (back z) (fits_from z fits) }; size = λ bytes. made_size make n bytes (read bytes) (p.size bytes) } where
  takes : (bytes : List ℕ) (x : ℤ) (rest : List ℕ) → IsBytes bytes → made make read bytes ≡ Some (x, rest) → Took (λ z. s (back z)) G bytes x rest
  takes bytes x rest fits e =
      let a = bind_some (read bytes) (λ a. Some (make a.0, a.1)) (x, rest) e in
      let q = some_is (make a.0.0, a.0.1) (x, rest) a.2 in
      let k = p.codec.takes bytes a.0.0 a.0.1 fits a.1 in
      subst (λ (y : ℤ × List ℕ). Took (λ z. s (back z)) G bytes y.0 y.1) q (record { parts = k.parts ∙ ap (λ (m : ℕ). s m ++ a.0.1) (sym (backs a.0.0 k.fits)); rest_bytes = k.rest_bytes; fits = fits_to a.0.0 k.fits })

  again : (x : ℤ) (rest : List ℕ) → G x → made make read (s (back x) ++ rest) ≡ Some (x, rest)
  again x rest fits = ap (λ (r : Read ℕ). r >>= λ a. Some (make a.0, a.1)) (p.codec.again (back x) rest (fits_from x fits)) ∙ ap (λ (y : ℤ). Some (y, rest)) (again_is x fits)

pub s1_part : Part s1_at s1 (FitsSigned w8) 1
s1_part = signed_part u1_at u1 (λ n. n < 256) 1 (cast_signed w8) (cast_unsigned w8) (FitsSigned w8) u1_part (λ z fits. to_z-of_z w8 z fits) (λ n fits. of_z-to_z w8 n fits) there back where
  there : (n : ℕ) → n < 256 → FitsSigned w8 (cast_signed w8 n)
  there n fits = search rules

  back : (z : ℤ) → FitsSigned w8 z → cast_unsigned w8 z < 256
  back z fits = omega (arith, ints)

pub s2_part : Part s2_at s2 (FitsSigned w16) 2
s2_part = signed_part u2_at u2 (λ n. n < 65536) 2 (cast_signed w16) (cast_unsigned w16) (FitsSigned w16) u2_part (λ z fits. to_z-of_z w16 z fits) (λ n fits. of_z-to_z w16 n fits) there back where
  there : (n : ℕ) → n < 65536 → FitsSigned w16 (cast_signed w16 n)
  there n fits = search rules

  back : (z : ℤ) → FitsSigned w16 z → cast_unsigned w16 z < 65536
  back z fits = omega (arith, ints)

pub s4_part : Part s4_at s4 (FitsSigned w32) 4
s4_part = signed_part u4_at u4 (λ n. n < 2 ^ 32) 4 (cast_signed w32) (cast_unsigned w32) (FitsSigned w32) u4_part (λ z fits. to_z-of_z w32 z fits) (λ n fits. of_z-to_z w32 n fits) there back where
  there : (n : ℕ) → n < 2 ^ 32 → FitsSigned w32 (cast_signed w32 n)
  there n fits = search rules

  back : (z : ℤ) → FitsSigned w32 z → cast_unsigned w32 z < 2 ^ 32
  back z fits = omega (arith, ints)

-- ---- one after the other

second_size : {A B : Type 0} (a : A) (n m : ℕ) (bytes more : List ℕ) (r : Read B) → length bytes ≡ n + length more → Sized m more r → Sized {A = A × B} (n + m) bytes (r >>= λ b. Some ((a, b.0), b.1))
second_size a n m bytes more (Some b) first size = omega (arith, first, size)
second_size a n m bytes more None first size = omega (arith, first, size)

first_size : {A B : Type 0} (g : List ℕ → Read B) (n m : ℕ) (bytes : List ℕ) (r : Read A) → Sized n bytes r → ((more : List ℕ) → Sized m more (g more)) → Sized {A = A × B} (n + m) bytes (r >>= λ a. g a.1 >>= λ b. Some ((a.0, b.0), b.1))
first_size g n m bytes (Some a) first size = second_size a.0 n m bytes a.1 (g a.1) first (size a.1)
first_size g n m bytes None first size = omega (arith, first)

pub pair_part : {A B : Type 0} (f : List ℕ → Read A) (g : List ℕ → Read B) (s : A → List ℕ) (t : B → List ℕ) (F : A → Type 0) (G : B → Type 0) (n m : ℕ)
    → Part f s F n → Part g t G m → Part (pair_at f g) (λ (p : A × B). s p.0 ++ t p.1) (λ (p : A × B). F p.0 × G p.1) (n + m)
pair_part f g s t F G n m p q = record { codec = pair_codec f g s t F G p.codec q.codec; size = λ bytes. first_size g n m bytes (f bytes) (p.size bytes) q.size }

-- ---- so many bytes

pub bytes_again : (n : ℕ) (x : List ℕ) (rest : List ℕ) → length x ≡ n → bytes_at n (x ++ rest) ≡ Some (x, rest)
bytes_again n x rest fits =
    let long : ltb (length (x ++ rest)) n ≡ false = le-ltb _ _ (omega (arith, length-append x rest)) in
    rw (long, take_at x rest n fits, drop_at x rest n fits) refl

pub bytes_part : (n : ℕ) → Part (bytes_at n) (λ bytes. bytes) (λ bytes. (length bytes ≡ n) × IsBytes bytes) n
bytes_part n = record { codec = record { takes = takes; again = λ x rest fits. bytes_again n x rest fits.0; bytes = λ x fits. fits.1 }; size = size } where
  takes : (bytes : List ℕ) (x : List ℕ) (rest : List ℕ) → IsBytes bytes → bytes_at n bytes ≡ Some (x, rest) → Took (λ bytes. bytes) (λ bytes. (length bytes ≡ n) × IsBytes bytes) bytes x rest
  takes bytes x rest fits e =
      let g = guard (ltb (length bytes) n) (take n bytes, drop n bytes) (x, rest) e in
      let long : n ≤ length bytes = ltb-false _ _ g.0 in
      let len : length (take n bytes) ≡ n = omega (arith, length-take n bytes) in
      let again : take n bytes ++ drop n bytes ≡ bytes = take-append-drop n bytes in
      let both = IsBytes-append (take n bytes) (drop n bytes) (subst IsBytes (sym again) fits) in
      subst (λ (y : List ℕ × List ℕ). Took (λ bytes. bytes) (λ bytes. (length bytes ≡ n) × IsBytes bytes) bytes y.0 y.1) g.1 (record { parts = sym again; rest_bytes = both.1; fits = (len, both.0) })

  by_test : (t : Bool) (bytes : List ℕ) → ltb (length bytes) n ≡ t → Sized n bytes (cond t None (Some (take n bytes, drop n bytes)))
  by_test true bytes is = ltb-true _ _ is
  by_test false bytes is = let long : n ≤ length bytes = ltb-false _ _ is in omega (arith, length-drop n bytes)

  size : (bytes : List ℕ) → Sized n bytes (bytes_at n bytes)
  size bytes = by_test (ltb (length bytes) n) bytes refl
