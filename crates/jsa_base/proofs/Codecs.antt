-- The codecs of numbers, texts and lists, and of what is made of them: a format's codec is one term of these.
use Rattle.std.proofs.Common.{◌≡◌, ℕ, zero, suc, ◌+◌, ◌*◌, ◌/◌, ◌%◌, ◌^◌, ◌<◌, ◌≤◌, Bool, true, false, cond, eqb, ltb, List, [], ◌∷◌, ◌++◌, length, take, drop, Option, Some, None, refl, sym, ap, subst, ◌∙◌, append_assoc, arith}
use Rattle.std.specs.List.{flat_map, AllByRecursion}
use Rattle.std.proofs.lemmas.Bool.{eqb-true, ltb-false, le-ltb}
use Rattle.std.proofs.lemmas.List.{nil_from_length, take_at, drop_at, take-append-drop, length-append, length-take}
use Rattle.std.proofs.lemmas.List.Concat.{flat_map-cons}
use Rattle.jsa_base.specs.Reading.{◌>>=◌, IsBytes, Read, u1_at, u2_at, u4_at, u8_at, bytes_at, pair_at, made, times, counted_at, text_at, long_text_at, all_read}
use Rattle.jsa_base.specs.Spelling.{u2, u4, u8, text, long_text, counted, Fits4, FitsText, FitsLongText, FitsCounted}
use Rattle.jsa_base.specs.Codec.{Took, Codec}
use Rattle.jsa_base.specs.LowFirst.{low_u4, low_u8, low_u4_at, low_u8_at, low_text, low_text_at, low_counted, low_counted_at, FitsLowCounted}

-- the value of a step that did not fail
pub bind_some : {A B : Type 0} (r : Option A) (f : A → Option B) (y : B) → (r >>= f) ≡ Some y → (x : A) × (r ≡ Some x) × (f x ≡ Some y)
bind_some (Some x) f y e = (x, refl, e)
bind_some None f y e = absurd cc

abbrev some : {A : Type 0} → A → Option A
some x = Some x

pub some_is : {A : Type 0} (x y : A) → some x ≡ some y → x ≡ y
some_is x y e = cc

-- a test that did not fail
pub guard : {A : Type 0} (b : Bool) (x y : A) → cond b None (Some x) ≡ Some y → (b ≡ false) × (x ≡ y)
guard true x y e = absurd cc
guard false x y e = (refl, cc)

-- a test that held
pub choice : {A : Type 0} (b : Bool) (x : Option A) (y : A) → cond b x None ≡ Some y → (b ≡ true) × (x ≡ Some y)
choice true x y e = (refl, e)
choice false x y e = absurd cc

-- Where all was read, nothing is left.
pub all_read_is : {A : Type 0} (read : Read A) (x : A) → all_read read ≡ Some x → read ≡ Some (x, [])
all_read_is None x h = absurd cc
all_read_is {A} (Some y) x h =
    let g = choice (eqb (length y.1) 0) (Some y.0) x h in
    let e : y.1 ≡ [] = nil_from_length y.1 (eqb-true _ _ g.0) in
    ap (λ (r : List ℕ). Some (y.0, r)) e ∙ ap (λ (z : A). Some (z, [])) (some_is y.0 x g.1)

pub append-IsBytes : (a b : List ℕ) → IsBytes a → IsBytes b → IsBytes (a ++ b)
append-IsBytes [] b h k = k
append-IsBytes (x ∷ a) b h k = (h.0, append-IsBytes a b h.1 k)

-- ---- numbers

pub byte_codec : Codec u1_at (λ n. n ∷ []) (λ n. n < 256)
byte_codec = record { takes = takes; again = λ x rest fits. refl; bytes = λ x fits. (fits, tt) } where
  takes : (bytes : List ℕ) (x : ℕ) (rest : List ℕ) → IsBytes bytes → u1_at bytes ≡ Some (x, rest) → Took (λ n. n ∷ []) (λ n. n < 256) bytes x rest
  takes [] x rest fits e = absurd cc
  takes (a ∷ bytes) x rest fits e =
      let p = some_is (a, bytes) (x, rest) e in
      subst (λ (y : ℕ × List ℕ). Took (λ n. n ∷ []) (λ n. n < 256) (a ∷ bytes) y.0 y.1) p (record { parts = refl; rest_bytes = fits.1; fits = fits.0 })

pub u2_codec : Codec u2_at u2 (λ n. n < 65536)
u2_codec = record { takes = takes; again = again; bytes = λ x fits. (omega arith, (omega arith, tt)) } where
  takes : (bytes : List ℕ) (x : ℕ) (rest : List ℕ) → IsBytes bytes → u2_at bytes ≡ Some (x, rest) → Took u2 (λ n. n < 65536) bytes x rest
  takes [] x rest fits e = absurd cc
  takes (a ∷ []) x rest fits e = absurd cc
  takes (a ∷ b ∷ bytes) x rest fits e =
      let p = some_is (256 * a + b, bytes) (x, rest) e in
      let high : (256 * a + b) / 256 ≡ a = omega (arith, fits.0, fits.1.0) in
      let low : (256 * a + b) % 256 ≡ b = omega (arith, fits.0, fits.1.0) in
      let top : 256 * a + b < 65536 = omega (arith, fits.0, fits.1.0) in
      subst (λ (y : ℕ × List ℕ). Took u2 (λ n. n < 65536) (a ∷ b ∷ bytes) y.0 y.1) p (record { parts = rw (high, low) refl; rest_bytes = fits.1.1; fits = top })

  again : (x : ℕ) (rest : List ℕ) → x < 65536 → u2_at (u2 x ++ rest) ≡ Some (x, rest)
  again x rest fits = let e : 256 * (x / 256) + x % 256 ≡ x = omega arith in ap (λ (n : ℕ). Some (n, rest)) e

pub u4_codec : Codec u4_at u4 (λ n. n < 2 ^ 32)
u4_codec = record { takes = takes; again = again; bytes = λ x fits. (omega arith, (omega arith, (omega arith, (omega arith, tt)))) } where
  takes : (bytes : List ℕ) (x : ℕ) (rest : List ℕ) → IsBytes bytes → u4_at bytes ≡ Some (x, rest) → Took u4 (λ n. n < 2 ^ 32) bytes x rest
  takes [] x rest fits e = absurd cc
  takes (a ∷ []) x rest fits e = absurd cc
  takes (a ∷ b ∷ []) x rest fits e = absurd cc
  takes (a ∷ b ∷ c ∷ []) x rest fits e = absurd cc
  takes (a ∷ b ∷ c ∷ d ∷ bytes) x rest fits e =
      let p = some_is (16777216 * a + 65536 * b + 256 * c + d, bytes) (x, rest) e in
      let fa : a < 256 = fits.0 in
      let fb : b < 256 = fits.1.0 in
      let fc : c < 256 = fits.1.1.0 in
      let fd : d < 256 = fits.1.1.1.0 in
      let i : (16777216 * a + 65536 * b + 256 * c + d) / 16777216 ≡ a = omega arith in
      let j : (16777216 * a + 65536 * b + 256 * c + d) / 65536 % 256 ≡ b = omega arith in
      let k : (16777216 * a + 65536 * b + 256 * c + d) / 256 % 256 ≡ c = omega arith in
      let l : (16777216 * a + 65536 * b + 256 * c + d) % 256 ≡ d = omega arith in
      let top : 16777216 * a + 65536 * b + 256 * c + d < 2 ^ 32 = omega arith in
      subst (λ (y : ℕ × List ℕ). Took u4 (λ n. n < 2 ^ 32) (a ∷ b ∷ c ∷ d ∷ bytes) y.0 y.1) p (record { parts = rw (i, j, k, l) refl; rest_bytes = fits.1.1.1.1; fits = top })

  again : (x : ℕ) (rest : List ℕ) → x < 2 ^ 32 → u4_at (u4 x ++ rest) ≡ Some (x, rest)
  again x rest fits = let e : 16777216 * (x / 16777216) + 65536 * (x / 65536 % 256) + 256 * (x / 256 % 256) + x % 256 ≡ x = omega arith in ap (λ (n : ℕ). Some (n, rest)) e

-- ---- one after the other

pub pair_codec : {A B : Type 0} (f : List ℕ → Option (A × List ℕ)) (g : List ℕ → Option (B × List ℕ)) (s : A → List ℕ) (t : B → List ℕ) (F : A → Type 0) (G : B → Type 0)
    → Codec f s F → Codec g t G → Codec (pair_at f g) (λ (p : A × B). s p.0 ++ t p.1) (λ (p : A × B). F p.0 × G p.1)
pair_codec {A} {B} f g s t F G c d = record { takes = takes; again = again; bytes = λ x fits. append-IsBytes (s x.0) (t x.1) (c.bytes x.0 fits.0) (d.bytes x.1 fits.1) } where
  takes : (bytes : List ℕ) (x : A × B) (rest : List ℕ) → IsBytes bytes → pair_at f g bytes ≡ Some (x, rest) → Took (λ (p : A × B). s p.0 ++ t p.1) (λ (p : A × B). F p.0 × G p.1) bytes x rest
  takes bytes x rest fits e =
      let a = bind_some (f bytes) (λ a. g a.1 >>= λ b. Some ((a.0, b.0), b.1)) (x, rest) e in
      let b = bind_some (g a.0.1) (λ b. Some ((a.0.0, b.0), b.1)) (x, rest) a.2 in
      let p = some_is ((a.0.0, b.0.0), b.0.1) (x, rest) b.2 in
      let first = c.takes bytes a.0.0 a.0.1 fits a.1 in
      let second = d.takes a.0.1 b.0.0 b.0.1 first.rest_bytes b.1 in
      subst (λ (y : (A × B) × List ℕ). Took (λ (p : A × B). s p.0 ++ t p.1) (λ (p : A × B). F p.0 × G p.1) bytes y.0 y.1) p (record {
        parts = first.parts ∙ ap (λ (r : List ℕ). s a.0.0 ++ r) second.parts ∙ sym (append_assoc (s a.0.0) (t b.0.0) b.0.1);
        rest_bytes = second.rest_bytes;
        fits = (first.fits, second.fits);
      })

  again : (x : A × B) (rest : List ℕ) → F x.0 × G x.1 → pair_at f g ((s x.0 ++ t x.1) ++ rest) ≡ Some (x, rest)
  again x rest fits =
      ap (pair_at f g) (append_assoc (s x.0) (t x.1) rest) ∙ rw (c.again x.0 (t x.1 ++ rest) fits.0, d.again x.1 rest fits.1) refl

-- ---- eight bytes

pub u8_codec : Codec u8_at u8 (λ n. n < 2 ^ 64)
unfolding u8_at
u8_codec = record { takes = takes; again = again; bytes = bytes } where
  halves : Codec (pair_at u4_at u4_at) (λ (p : ℕ × ℕ). u4 p.0 ++ u4 p.1) (λ (p : ℕ × ℕ). Fits4 p.0 × Fits4 p.1)
  halves = pair_codec u4_at u4_at u4 u4 Fits4 Fits4 u4_codec u4_codec

  takes : (bytes : List ℕ) (x : ℕ) (rest : List ℕ) → IsBytes bytes → made (λ p. 0x1_0000_0000 * p.0 + p.1) (pair_at u4_at u4_at) bytes ≡ Some (x, rest) → Took u8 (λ n. n < 2 ^ 64) bytes x rest
  takes bytes x rest fits e =
      let a = bind_some (pair_at u4_at u4_at bytes) (λ p. Some (0x1_0000_0000 * p.0.0 + p.0.1, p.1)) (x, rest) e in
      let h = a.0.0.0 in
      let l = a.0.0.1 in
      let t = halves.takes bytes (h, l) a.0.1 fits a.1 in
      let fh : h < 2 ^ 32 = t.fits.0 in
      let fl : l < 2 ^ 32 = t.fits.1 in
      let p = some_is (0x1_0000_0000 * h + l, a.0.1) (x, rest) a.2 in
      let i : (0x1_0000_0000 * h + l) / 0x1_0000_0000 ≡ h = omega arith in
      let j : (0x1_0000_0000 * h + l) % 0x1_0000_0000 ≡ l = omega arith in
      let top : 0x1_0000_0000 * h + l < 2 ^ 64 = omega arith in
      let parts : bytes ≡ u8 (0x1_0000_0000 * h + l) ++ a.0.1 = rw (i, j) t.parts in
      subst (λ (y : ℕ × List ℕ). Took u8 (λ n. n < 2 ^ 64) bytes y.0 y.1) p (record { parts = parts; rest_bytes = t.rest_bytes; fits = top })

  again : (x : ℕ) (rest : List ℕ) → x < 2 ^ 64 → made (λ p. 0x1_0000_0000 * p.0 + p.1) (pair_at u4_at u4_at) (u8 x ++ rest) ≡ Some (x, rest)
  again x rest fits =
      let i : x / 0x1_0000_0000 < 2 ^ 32 = omega arith in
      let j : x % 0x1_0000_0000 < 2 ^ 32 = omega arith in
      let e : 0x1_0000_0000 * (x / 0x1_0000_0000) + x % 0x1_0000_0000 ≡ x = omega arith in
      ap (λ (r : Read (ℕ × ℕ)). r >>= λ p. Some (0x1_0000_0000 * p.0.0 + p.0.1, p.1)) (halves.again (x / 0x1_0000_0000, x % 0x1_0000_0000) rest (i, j)) ∙ ap (λ (n : ℕ). Some (n, rest)) e

  bytes : (x : ℕ) → x < 2 ^ 64 → IsBytes (u8 x)
  bytes x fits =
      let i : x / 0x1_0000_0000 < 2 ^ 32 = omega arith in
      let j : x % 0x1_0000_0000 < 2 ^ 32 = omega arith in
      halves.bytes (x / 0x1_0000_0000, x % 0x1_0000_0000) (i, j)

-- ---- bytes behind their number

pub IsBytes-append : (a b : List ℕ) → IsBytes (a ++ b) → IsBytes a × IsBytes b
IsBytes-append [] b h = (tt, h)
IsBytes-append (x ∷ a) b h = let r = IsBytes-append a b h.1 in ((h.0, r.0), r.1)

-- a number, and that many bytes
abbrev sized_at : (List ℕ → Read ℕ) → List ℕ → Read (List ℕ)
sized_at number bytes = number bytes >>= λ n. bytes_at n.0 n.1

sized_codec : (number : List ℕ → Read ℕ) (spell : ℕ → List ℕ) (limit : ℕ) → Codec number spell (λ n. n < limit) → Codec (sized_at number) (λ t. spell (length t) ++ t) (λ t. (length t < limit) × IsBytes t)
sized_codec number spell limit c = record { takes = takes; again = again; bytes = λ x fits. append-IsBytes (spell (length x)) x (c.bytes (length x) fits.0) fits.1 } where
  takes : (bytes : List ℕ) (x : List ℕ) (rest : List ℕ) → IsBytes bytes → sized_at number bytes ≡ Some (x, rest) → Took (λ t. spell (length t) ++ t) (λ t. (length t < limit) × IsBytes t) bytes x rest
  takes bytes x rest fits e =
      let a = bind_some (number bytes) (λ n. bytes_at n.0 n.1) (x, rest) e in
      let n = a.0.0 in
      let more = a.0.1 in
      let t = c.takes bytes n more fits a.1 in
      let g = guard (ltb (length more) n) (take n more, drop n more) (x, rest) a.2 in
      let long : n ≤ length more = ltb-false _ _ g.0 in
      let len : length (take n more) ≡ n = omega (arith, length-take n more) in
      let again : take n more ++ drop n more ≡ more = take-append-drop n more in
      let both = IsBytes-append (take n more) (drop n more) (subst IsBytes (sym again) t.rest_bytes) in
      let small : length (take n more) < limit = omega (arith, t.fits) in
      let parts : bytes ≡ (spell (length (take n more)) ++ take n more) ++ drop n more = t.parts ∙ ap (λ (r : List ℕ). spell n ++ r) (sym again) ∙ sym (append_assoc (spell n) (take n more) (drop n more)) ∙ ap (λ (k : ℕ). (spell k ++ take n more) ++ drop n more) (sym len) in
      subst (λ (y : List ℕ × List ℕ). Took (λ t. spell (length t) ++ t) (λ t. (length t < limit) × IsBytes t) bytes y.0 y.1) g.1 (record { parts = parts; rest_bytes = both.1; fits = (small, both.0) })

  again : (x : List ℕ) (rest : List ℕ) → (length x < limit) × IsBytes x → sized_at number ((spell (length x) ++ x) ++ rest) ≡ Some (x, rest)
  again x rest fits =
      let long : ltb (length (x ++ rest)) (length x) ≡ false = le-ltb _ _ (omega (arith, length-append x rest)) in
      let lt : length x < limit = fits.0 in
      ap (λ (b : List ℕ). sized_at number b) (append_assoc (spell (length x)) x rest)
      ∙ ap (λ (r : Read ℕ). r >>= λ n. bytes_at n.0 n.1) (c.again (length x) (x ++ rest) lt)
      ∙ rw (long, take_at x rest (length x) refl, drop_at x rest (length x) refl) refl

pub text_codec : Codec text_at text FitsText
unfolding text_at
text_codec = sized_codec u2_at u2 65536 u2_codec

pub long_text_codec : Codec long_text_at long_text FitsLongText
unfolding long_text_at
long_text_codec = sized_codec u4_at u4 (2 ^ 32) u4_codec

-- ---- made of what was read

pub made_codec : {A B : Type 0} (read : List ℕ → Option (A × List ℕ)) (s : A → List ℕ) (F : A → Type 0) (make : A → B) (back : B → A) (t : B → List ℕ) (G : B → Type 0)
    → Codec read s F → ((b : B) → G b → make (back b) ≡ b) → ((a : A) → s a ≡ t (make a)) → ((b : B) → s (back b) ≡ t b) → ((a : A) → F a → G (make a)) → ((b : B) → G b → F (back b)) → Codec (made make read) t G
made_codec {A} {B} read s F make back t G c again_is spells backs fits_to fits_from = record { takes = takes; again = again; bytes = λ x fits. subst IsBytes (backs x) (c.bytes (back x) (fits_from x fits)) } where
  takes : (bytes : List ℕ) (x : B) (rest : List ℕ) → IsBytes bytes → made make read bytes ≡ Some (x, rest) → Took t G bytes x rest
  takes bytes x rest fits e =
      let a = bind_some (read bytes) (λ a. Some (make a.0, a.1)) (x, rest) e in
      let p = some_is (make a.0.0, a.0.1) (x, rest) a.2 in
      let k = c.takes bytes a.0.0 a.0.1 fits a.1 in
      subst (λ (y : B × List ℕ). Took t G bytes y.0 y.1) p (record { parts = k.parts ∙ ap (λ (r : List ℕ). r ++ a.0.1) (spells a.0.0); rest_bytes = k.rest_bytes; fits = fits_to a.0.0 k.fits })

  again : (x : B) (rest : List ℕ) → G x → made make read (t x ++ rest) ≡ Some (x, rest)
  again x rest fits =
      ap (λ (b : List ℕ). made make read (b ++ rest)) (sym (backs x)) ∙ ap (λ (r : Option (A × List ℕ)). r >>= λ a. Some (make a.0, a.1)) (c.again (back x) rest (fits_from x fits)) ∙ ap (λ (y : B). Some (y, rest)) (again_is x fits)

-- ---- lists behind their length

record TookTimes {A : Type 0} (spell : A → List ℕ) (Fit : A → Type 0) (n : ℕ) (bytes : List ℕ) (xs : List A) (rest : List ℕ) : Type 0 where
  parts : bytes ≡ flat_map spell xs ++ rest
  rest_bytes : IsBytes rest
  fits : AllByRecursion Fit xs
  len : length xs ≡ n

times_take : {A : Type 0} (item : List ℕ → Option (A × List ℕ)) (spell : A → List ℕ) (Fit : A → Type 0) → Codec item spell Fit → (n : ℕ) (bytes : List ℕ) (xs : List A) (rest : List ℕ) → IsBytes bytes → times item n bytes ≡ Some (xs, rest) → TookTimes spell Fit n bytes xs rest
unfolding times
times_take {A} item spell Fit c zero bytes xs rest fits h =
    subst (λ (y : List A × List ℕ). TookTimes spell Fit 0 bytes y.0 y.1) (some_is ([], bytes) (xs, rest) h) (record { parts = refl; rest_bytes = fits; fits = tt; len = refl })
times_take {A} item spell Fit c (suc n) bytes xs rest fits h =
    let a = bind_some (item bytes) (λ first. times item n first.1 >>= λ others. Some (first.0 ∷ others.0, others.1)) (xs, rest) h in
    let b = bind_some (times item n a.0.1) (λ others. Some (a.0.0 ∷ others.0, others.1)) (xs, rest) a.2 in
    let first = c.takes bytes a.0.0 a.0.1 fits a.1 in
    let t = times_take item spell Fit c n a.0.1 b.0.0 b.0.1 first.rest_bytes b.1 in
    subst (λ (y : List A × List ℕ). TookTimes spell Fit (suc n) bytes y.0 y.1) (some_is (a.0.0 ∷ b.0.0, b.0.1) (xs, rest) b.2) (record {
      parts = first.parts ∙ ap (λ (r : List ℕ). spell a.0.0 ++ r) t.parts ∙ sym (append_assoc (spell a.0.0) (flat_map spell b.0.0) b.0.1) ∙ ap (λ (r : List ℕ). r ++ b.0.1) (sym (flat_map-cons spell a.0.0 b.0.0));
      rest_bytes = t.rest_bytes;
      fits = (first.fits, t.fits);
      len = ap suc t.len;
    })

times_again : {A : Type 0} (item : List ℕ → Option (A × List ℕ)) (spell : A → List ℕ) (Fit : A → Type 0) → Codec item spell Fit → (xs : List A) (rest : List ℕ) → AllByRecursion Fit xs → times item (length xs) (flat_map spell xs ++ rest) ≡ Some (xs, rest)
unfolding times
times_again item spell Fit c [] rest fits = refl
times_again {A} item spell Fit c (x ∷ xs) rest fits =
    let regrouped : flat_map spell (x ∷ xs) ++ rest ≡ spell x ++ (flat_map spell xs ++ rest) = ap (λ (r : List ℕ). r ++ rest) (flat_map-cons spell x xs) ∙ append_assoc (spell x) (flat_map spell xs) rest in
    ap (times item (suc (length xs))) regrouped ∙ rw (c.again x (flat_map spell xs ++ rest) fits.0, times_again item spell Fit c xs rest fits.1) refl

times_bytes : {A : Type 0} (item : List ℕ → Read A) (spell : A → List ℕ) (Fit : A → Type 0) → Codec item spell Fit → (xs : List A) → AllByRecursion Fit xs → IsBytes (flat_map spell xs)
times_bytes item spell Fit c [] fits = tt
times_bytes item spell Fit c (x ∷ xs) fits = subst IsBytes (sym (flat_map-cons spell x xs)) (append-IsBytes (spell x) (flat_map spell xs) (c.bytes x fits.0) (times_bytes item spell Fit c xs fits.1))

-- so many items
pub times_codec : {A : Type 0} (item : List ℕ → Read A) (spell : A → List ℕ) (Fit : A → Type 0) (n : ℕ) → Codec item spell Fit → Codec (times item n) (flat_map spell) (λ (xs : List A). (length xs ≡ n) × AllByRecursion Fit xs)
times_codec {A} item spell Fit n c = record {
  takes = λ bytes xs rest fits h.
      let t = times_take item spell Fit c n bytes xs rest fits h in
      record { parts = t.parts; rest_bytes = t.rest_bytes; fits = (t.len, t.fits) };
  again = λ xs rest fits. subst (λ (k : ℕ). times item k (flat_map spell xs ++ rest) ≡ Some (xs, rest)) fits.0 (times_again item spell Fit c xs rest fits.1);
  bytes = λ xs fits. times_bytes item spell Fit c xs fits.1;
}

pub counted_codec : {A : Type 0} (item : List ℕ → Option (A × List ℕ)) (spell : A → List ℕ) (Fit : A → Type 0) → Codec item spell Fit → Codec (counted_at item) (counted spell) (FitsCounted Fit)
counted_codec {A} item spell Fit c = record { takes = takes; again = again; bytes = λ xs fits. append-IsBytes (u2 (length xs)) (flat_map spell xs) (u2_codec.bytes (length xs) fits.0) (times_bytes item spell Fit c xs fits.1) } where
  takes : (bytes : List ℕ) (xs : List A) (rest : List ℕ) → IsBytes bytes → counted_at item bytes ≡ Some (xs, rest) → Took (counted spell) (FitsCounted Fit) bytes xs rest
  takes bytes xs rest fits h =
      let a = bind_some (u2_at bytes) (λ n. times item n.0 n.1) (xs, rest) h in
      let n = a.0.0 in
      let first = u2_codec.takes bytes n a.0.1 fits a.1 in
      let t = times_take item spell Fit c n a.0.1 xs rest first.rest_bytes a.2 in
      record {
        parts = first.parts ∙ ap (λ (r : List ℕ). u2 n ++ r) t.parts ∙ sym (append_assoc (u2 n) (flat_map spell xs) rest) ∙ ap (λ (k : ℕ). (u2 k ++ flat_map spell xs) ++ rest) (sym t.len);
        rest_bytes = t.rest_bytes;
        fits = (omega (arith, first.fits, t.len), t.fits);
      }

  again : (xs : List A) (rest : List ℕ) → FitsCounted Fit xs → counted_at item (counted spell xs ++ rest) ≡ Some (xs, rest)
  again xs rest fits =
      let lt : length xs < 65536 = fits.0 in
      ap (counted_at item) (append_assoc (u2 (length xs)) (flat_map spell xs) rest)
      ∙ ap (λ (r : Option (ℕ × List ℕ)). r >>= λ n. times item n.0 n.1) (u2_codec.again (length xs) (flat_map spell xs ++ rest) lt)
      ∙ times_again item spell Fit c xs rest fits.1

-- ---- a value behind its tag

-- what stands behind one tag
pub leaf : {A B : Type 0} (read : List ℕ → Read A) (spell : A → List ℕ) (Fit : A → Type 0) (c : Codec read spell Fit) (k : ℕ) (make : A → B) (tagged : B → List ℕ) (Fits : B → Type 0)
    → ((x : A) → tagged (make x) ≡ k ∷ spell x) → ((x : A) → Fit x → Fits (make x))
    → (tag : ℕ) (bytes : List ℕ) (e : B) (rest : List ℕ) → IsBytes bytes → tag ≡ k → made make read bytes ≡ Some (e, rest) → Took tagged Fits (tag ∷ bytes) e rest
leaf {A} {B} read spell Fit c k make tagged Fits tagged_is fits_is tag bytes e rest fits is h =
    let a = bind_some (read bytes) (λ x. Some (make x.0, x.1)) (e, rest) h in
    let p = some_is (make a.0.0, a.0.1) (e, rest) a.2 in
    let t = c.takes bytes a.0.0 a.0.1 fits a.1 in
    let parts : tag ∷ bytes ≡ tagged (make a.0.0) ++ a.0.1 = ap (λ (b : List ℕ). tag ∷ b) t.parts ∙ ap (λ (n : ℕ). n ∷ (spell a.0.0 ++ a.0.1)) is ∙ ap (λ (b : List ℕ). b ++ a.0.1) (sym (tagged_is a.0.0)) in
    subst (λ (y : B × List ℕ). Took tagged Fits (tag ∷ bytes) y.0 y.1) p (record { parts = parts; rest_bytes = t.rest_bytes; fits = fits_is a.0.0 t.fits })

-- one test of a tag
pub on_tag : {A : Type 0} {P : Type 0} (tag k : ℕ) (x y : Option A) (z : A) → (tag ≡ k → x ≡ Some z → P) → (y ≡ Some z → P) → cond (eqb tag k) x y ≡ Some z → P
on_tag {A} {P} tag k x y z here past h =
    elim (eqb tag k) as (λ b. eqb tag k ≡ b → cond b x y ≡ Some z → P) [
      | true ↦ λ is. here (eqb-true tag k is)
      | false ↦ λ is. past
    ] refl h

-- ---- the low byte first

pub low_u4_codec : Codec low_u4_at low_u4 (λ n. n < 2 ^ 32)
low_u4_codec = record { takes = takes; again = again; bytes = λ x fits. (omega arith, (omega arith, (omega arith, (omega arith, tt)))) } where
  takes : (bytes : List ℕ) (x : ℕ) (rest : List ℕ) → IsBytes bytes → low_u4_at bytes ≡ Some (x, rest) → Took low_u4 (λ n. n < 2 ^ 32) bytes x rest
  takes [] x rest fits e = absurd cc
  takes (a ∷ []) x rest fits e = absurd cc
  takes (a ∷ b ∷ []) x rest fits e = absurd cc
  takes (a ∷ b ∷ c ∷ []) x rest fits e = absurd cc
  takes (a ∷ b ∷ c ∷ d ∷ bytes) x rest fits e =
      let n = a + 256 * b + 65536 * c + 16777216 * d in
      let p = some_is (n, bytes) (x, rest) e in
      let fa : a < 256 = fits.0 in
      let fb : b < 256 = fits.1.0 in
      let fc : c < 256 = fits.1.1.0 in
      let fd : d < 256 = fits.1.1.1.0 in
      let i : (a + 256 * b + 65536 * c + 16777216 * d) % 256 ≡ a = omega arith in
      let j : (a + 256 * b + 65536 * c + 16777216 * d) / 256 % 256 ≡ b = omega arith in
      let k : (a + 256 * b + 65536 * c + 16777216 * d) / 65536 % 256 ≡ c = omega arith in
      let l : (a + 256 * b + 65536 * c + 16777216 * d) / 16777216 % 256 ≡ d = omega arith in
      let top : a + 256 * b + 65536 * c + 16777216 * d < 2 ^ 32 = omega arith in
      subst (λ (y : ℕ × List ℕ). Took low_u4 (λ n. n < 2 ^ 32) (a ∷ b ∷ c ∷ d ∷ bytes) y.0 y.1) p (record { parts = rw (i, j, k, l) refl; rest_bytes = fits.1.1.1.1; fits = top })

  again : (x : ℕ) (rest : List ℕ) → x < 2 ^ 32 → low_u4_at (low_u4 x ++ rest) ≡ Some (x, rest)
  again x rest fits = let e : x % 256 + 256 * (x / 256 % 256) + 65536 * (x / 65536 % 256) + 16777216 * (x / 16777216 % 256) ≡ x = omega arith in ap (λ (n : ℕ). Some (n, rest)) e

pub low_u8_codec : Codec low_u8_at low_u8 (λ n. n < 2 ^ 64)
unfolding low_u8_at
low_u8_codec = record { takes = takes; again = again; bytes = bytes } where
  halves : Codec (pair_at low_u4_at low_u4_at) (λ (p : ℕ × ℕ). low_u4 p.0 ++ low_u4 p.1) (λ (p : ℕ × ℕ). (p.0 < 2 ^ 32) × (p.1 < 2 ^ 32))
  halves = pair_codec low_u4_at low_u4_at low_u4 low_u4 (λ n. n < 2 ^ 32) (λ n. n < 2 ^ 32) low_u4_codec low_u4_codec

  takes : (bytes : List ℕ) (x : ℕ) (rest : List ℕ) → IsBytes bytes → made (λ p. p.0 + 0x1_0000_0000 * p.1) (pair_at low_u4_at low_u4_at) bytes ≡ Some (x, rest) → Took low_u8 (λ n. n < 2 ^ 64) bytes x rest
  takes bytes x rest fits e =
      let a = bind_some (pair_at low_u4_at low_u4_at bytes) (λ p. Some (p.0.0 + 0x1_0000_0000 * p.0.1, p.1)) (x, rest) e in
      let l = a.0.0.0 in
      let h = a.0.0.1 in
      let t = halves.takes bytes (l, h) a.0.1 fits a.1 in
      let fl : l < 2 ^ 32 = t.fits.0 in
      let fh : h < 2 ^ 32 = t.fits.1 in
      let p = some_is (l + 0x1_0000_0000 * h, a.0.1) (x, rest) a.2 in
      let i : (l + 0x1_0000_0000 * h) / 0x1_0000_0000 ≡ h = omega arith in
      let j : (l + 0x1_0000_0000 * h) % 0x1_0000_0000 ≡ l = omega arith in
      let top : l + 0x1_0000_0000 * h < 2 ^ 64 = omega arith in
      let parts : bytes ≡ low_u8 (l + 0x1_0000_0000 * h) ++ a.0.1 = rw (i, j) t.parts in
      subst (λ (y : ℕ × List ℕ). Took low_u8 (λ n. n < 2 ^ 64) bytes y.0 y.1) p (record { parts = parts; rest_bytes = t.rest_bytes; fits = top })

  again : (x : ℕ) (rest : List ℕ) → x < 2 ^ 64 → made (λ p. p.0 + 0x1_0000_0000 * p.1) (pair_at low_u4_at low_u4_at) (low_u8 x ++ rest) ≡ Some (x, rest)
  again x rest fits =
      let i : x / 0x1_0000_0000 < 2 ^ 32 = omega arith in
      let j : x % 0x1_0000_0000 < 2 ^ 32 = omega arith in
      let e : x % 0x1_0000_0000 + 0x1_0000_0000 * (x / 0x1_0000_0000) ≡ x = omega arith in
      ap (λ (r : Read (ℕ × ℕ)). r >>= λ p. Some (p.0.0 + 0x1_0000_0000 * p.0.1, p.1)) (halves.again (x % 0x1_0000_0000, x / 0x1_0000_0000) rest (j, i)) ∙ ap (λ (n : ℕ). Some (n, rest)) e

  bytes : (x : ℕ) → x < 2 ^ 64 → IsBytes (low_u8 x)
  bytes x fits =
      let i : x / 0x1_0000_0000 < 2 ^ 32 = omega arith in
      let j : x % 0x1_0000_0000 < 2 ^ 32 = omega arith in
      append-IsBytes (low_u4 (x % 0x1_0000_0000)) (low_u4 (x / 0x1_0000_0000)) (low_u4_codec.bytes _ j) (low_u4_codec.bytes _ i)

pub low_text_codec : Codec low_text_at low_text FitsLongText
unfolding low_text_at
low_text_codec = sized_codec low_u4_at low_u4 (2 ^ 32) low_u4_codec

pub low_counted_codec : {A : Type 0} (item : List ℕ → Option (A × List ℕ)) (spell : A → List ℕ) (Fit : A → Type 0) → Codec item spell Fit → Codec (low_counted_at item) (low_counted spell) (FitsLowCounted Fit)
low_counted_codec {A} item spell Fit c = record { takes = takes; again = again; bytes = λ xs fits. append-IsBytes (low_u4 (length xs)) (flat_map spell xs) (low_u4_codec.bytes (length xs) fits.0) (times_bytes item spell Fit c xs fits.1) } where
  takes : (bytes : List ℕ) (xs : List A) (rest : List ℕ) → IsBytes bytes → low_counted_at item bytes ≡ Some (xs, rest) → Took (low_counted spell) (FitsLowCounted Fit) bytes xs rest
  takes bytes xs rest fits h =
      let a = bind_some (low_u4_at bytes) (λ n. times item n.0 n.1) (xs, rest) h in
      let n = a.0.0 in
      let first = low_u4_codec.takes bytes n a.0.1 fits a.1 in
      let t = times_take item spell Fit c n a.0.1 xs rest first.rest_bytes a.2 in
      let small : n < 2 ^ 32 = first.fits in
      record {
        parts = first.parts ∙ ap (λ (r : List ℕ). low_u4 n ++ r) t.parts ∙ sym (append_assoc (low_u4 n) (flat_map spell xs) rest) ∙ ap (λ (k : ℕ). (low_u4 k ++ flat_map spell xs) ++ rest) (sym t.len);
        rest_bytes = t.rest_bytes;
        fits = (omega (arith, small, t.len), t.fits);
      }

  again : (xs : List A) (rest : List ℕ) → FitsLowCounted Fit xs → low_counted_at item (low_counted spell xs ++ rest) ≡ Some (xs, rest)
  again xs rest fits =
      let lt : length xs < 2 ^ 32 = fits.0 in
      ap (low_counted_at item) (append_assoc (low_u4 (length xs)) (flat_map spell xs) rest)
      ∙ ap (λ (r : Option (ℕ × List ℕ)). r >>= λ n. times item n.0 n.1) (low_u4_codec.again (length xs) (flat_map spell xs ++ rest) lt)
      ∙ times_again item spell Fit c xs rest fits.1
