-- Reading from the front of a list of bytes, the high byte first: a value and the bytes after it, or nothing.
use Rattle.std.specs.Prelude.{◌≡◌, ℕ, zero, suc, ◌+◌, ◌*◌, ◌<◌, List, [], ◌∷◌, length, take, drop, Bool, true, false, Option, Some, None, nat_lt, ◌==◌, if◌then◌else◌}

infixl 10 ◌>>=◌
abbrev pub ◌>>=◌ : {A B : Type 0} → Option A → (A → Option B) → Option B
(Some x) >>= f = f x
None >>= f = None

-- goes on only where the test holds
abbrev pub when : Bool → Option (Unit {0})
when true = Some tt
when false = None

-- a value, with the bytes after it
abbrev pub Read : Type 0 → Type 0
Read A = Option (A × List ℕ)

abbrev pub u1_at : List ℕ → Read ℕ
u1_at [] = None
u1_at (a ∷ rest) = Some (a, rest)

abbrev pub u2_at : List ℕ → Read ℕ
u2_at [] = None
u2_at (a ∷ []) = None
u2_at (a ∷ b ∷ rest) = Some (256 * a + b, rest)

abbrev pub u4_at : List ℕ → Read ℕ
u4_at [] = None
u4_at (a ∷ []) = None
u4_at (a ∷ b ∷ []) = None
u4_at (a ∷ b ∷ c ∷ []) = None
u4_at (a ∷ b ∷ c ∷ d ∷ rest) = Some (16777216 * a + 65536 * b + 256 * c + d, rest)

-- so many bytes
abbrev pub bytes_at : ℕ → List ℕ → Read (List ℕ)
bytes_at n bytes = if nat_lt (length bytes) n then None else Some (take n bytes, drop n bytes)

-- What a call of a cursor returned is what reading gives, and the cursor is after it. None leaves the cursor as it was.
abbrev pub Reads : {X Y : Type 0} → (X → Y) → Option X → List ℕ → List ℕ → Read Y → Type 0
Reads view (Some x) old new read = read ≡ Some (view x, new)
Reads view None old new read = (read ≡ None) × (new ≡ old)

-- each is below 256
abbrev pub IsBytes : List ℕ → Type 0
IsBytes [] = Unit {0}
IsBytes (b ∷ bytes) = (b < 256) × IsBytes bytes

-- ---- what is made of parts

-- one after the other
abbrev pub pair_at : {A B : Type 0} → (List ℕ → Read A) → (List ℕ → Read B) → List ℕ → Read (A × B)
pair_at first second bytes = do
  a ← first bytes
  b ← second a.1
  Some ((a.0, b.0), b.1)

-- a value made of what was read
abbrev pub made : {A B : Type 0} → (A → B) → (List ℕ → Read A) → List ℕ → Read B
made make read bytes = read bytes >>= λ x. Some (make x.0, x.1)

-- eight bytes: the high four, then the low four
unfoldable pub u8_at : List ℕ → Read ℕ
u8_at = made (λ p. 0x1_0000_0000 * p.0 + p.1) (pair_at u4_at u4_at)

-- so many items
unfoldable pub times : {A : Type 0} → (List ℕ → Read A) → ℕ → List ℕ → Read (List A)
times item zero bytes = Some ([], bytes)
times item (suc n) bytes = do
  first ← item bytes
  others ← times item n first.1
  Some (first.0 ∷ others.0, others.1)

-- a list behind its length in two bytes
abbrev pub counted_at : {A : Type 0} → (List ℕ → Read A) → List ℕ → Read (List A)
counted_at item bytes = do
  n ← u2_at bytes
  times item n.0 n.1

-- bytes behind their number in two bytes
unfoldable pub text_at : List ℕ → Read (List ℕ)
text_at bytes = do
  n ← u2_at bytes
  bytes_at n.0 n.1

-- bytes behind their number in four bytes
unfoldable pub long_text_at : List ℕ → Read (List ℕ)
long_text_at bytes = do
  n ← u4_at bytes
  bytes_at n.0 n.1

-- what was read, where nothing is left
abbrev pub all_read : {A : Type 0} → Read A → Option A
all_read read = read >>= λ x. if length x.1 == 0 then Some x.0 else None
