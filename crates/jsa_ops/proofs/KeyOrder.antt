-- The keys of pairs, one after the other.
use Rattle.std.proofs.Common.{◌≡◌, ℕ, Bool, true, false, List, [], ◌∷◌, Option, Some, None, ℤ, refl, sym, ap, ◌∙◌}
use Rattle.std.specs.Prelude.{◌&&◌, int_lt}
use Rattle.jsa_base.proofs.Codecs.{some_is}
use Rattle.jsa_ops.specs.Spelling.{word, keys, ascend}
use Rattle.jsa_ops.specs.Reading.{key_above}
use Rattle.jsa_ops.specs.Switches.{first_pair}

-- The keys ascend, behind one that was met before them.
abbrev pub ascending : Option ℤ → List ℕ → Bool
ascending None pairs = ascend (keys pairs)
ascending (Some before) pairs = ascend (before ∷ keys pairs)

pub one_key : (before : Option ℤ) (rest : List ℕ) (key d : ℤ) (more : List ℕ) (total : Bool)
    → first_pair rest ≡ Some ((key, d), more) → key_above before key ≡ true → ascending before rest ≡ total → ascending (Some key) more ≡ total
one_key before [] key dist more total e above so_far = absurd cc
one_key before (a ∷ []) key dist more total e above so_far = absurd cc
one_key before (a ∷ b ∷ []) key dist more total e above so_far = absurd cc
one_key before (a ∷ b ∷ c ∷ []) key dist more total e above so_far = absurd cc
one_key before (a ∷ b ∷ c ∷ d ∷ []) key dist more total e above so_far = absurd cc
one_key before (a ∷ b ∷ c ∷ d ∷ f ∷ []) key dist more total e above so_far = absurd cc
one_key before (a ∷ b ∷ c ∷ d ∷ f ∷ g ∷ []) key dist more total e above so_far = absurd cc
one_key before (a ∷ b ∷ c ∷ d ∷ f ∷ g ∷ h ∷ []) key dist more total e above so_far = absurd cc
one_key None (a ∷ b ∷ c ∷ d ∷ f ∷ g ∷ h ∷ i ∷ rest) key dist more total e above so_far =
    let n = word a b c d in
    let p = some_is ((n, word f g h i), rest) ((key, dist), more) e in
    let k : n ≡ key = ap (λ (x : (ℤ × ℤ) × List ℕ). x.0.0) p in
    let m : rest ≡ more = ap (λ (x : (ℤ × ℤ) × List ℕ). x.1) p in
    rw (← k, ← m) so_far
one_key (Some b4) (a ∷ b ∷ c ∷ d ∷ f ∷ g ∷ h ∷ i ∷ rest) key dist more total e above so_far =
    let n = word a b c d in
    let p = some_is ((n, word f g h i), rest) ((key, dist), more) e in
    let k : n ≡ key = ap (λ (x : (ℤ × ℤ) × List ℕ). x.0.0) p in
    let m : rest ≡ more = ap (λ (x : (ℤ × ℤ) × List ℕ). x.1) p in
    let q : int_lt b4 key && ascend (key ∷ keys more) ≡ total = rw (← k, ← m) so_far in
    (rw above at q)

-- the same for a key as it is passed to a call
pub next_key : (before : Option ℤ) (rest : List ℕ) (key passed d : ℤ) (more : List ℕ) (total b : Bool)
    → passed ≡ key → Some ((key, d), more) ≡ first_pair rest → b ≡ key_above before passed → b ≡ true → ascending before rest ≡ total → ascending (Some passed) more ≡ total
next_key before rest key passed d more total b same e above holds so_far =
    one_key before rest passed d more total (sym e ∙ ap (λ (k : ℤ). Some ((k, d), more)) (sym same)) (sym above ∙ holds) so_far

pub key_falls : (before : Option ℤ) (rest : List ℕ) (key d : ℤ) (more : List ℕ) → first_pair rest ≡ Some ((key, d), more) → key_above before key ≡ false → ascending before rest ≡ false
key_falls before [] key dist more e below = absurd cc
key_falls before (a ∷ []) key dist more e below = absurd cc
key_falls before (a ∷ b ∷ []) key dist more e below = absurd cc
key_falls before (a ∷ b ∷ c ∷ []) key dist more e below = absurd cc
key_falls before (a ∷ b ∷ c ∷ d ∷ []) key dist more e below = absurd cc
key_falls before (a ∷ b ∷ c ∷ d ∷ f ∷ []) key dist more e below = absurd cc
key_falls before (a ∷ b ∷ c ∷ d ∷ f ∷ g ∷ []) key dist more e below = absurd cc
key_falls before (a ∷ b ∷ c ∷ d ∷ f ∷ g ∷ h ∷ []) key dist more e below = absurd cc
key_falls None (a ∷ b ∷ c ∷ d ∷ f ∷ g ∷ h ∷ i ∷ rest) key dist more e below = absurd cc
key_falls (Some b4) (a ∷ b ∷ c ∷ d ∷ f ∷ g ∷ h ∷ i ∷ rest) key dist more e below =
    let n = word a b c d in
    let p = some_is ((n, word f g h i), rest) ((key, dist), more) e in
    let k : n ≡ key = ap (λ (x : (ℤ × ℤ) × List ℕ). x.0.0) p in
    let q : int_lt b4 n ≡ false = ap (int_lt b4) k ∙ below in
    rw q refl

pub no_key : (before : Option ℤ) (rest : List ℕ) → first_pair rest ≡ None → ascending before rest ≡ true
no_key None [] e = refl
no_key None (a ∷ []) e = refl
no_key None (a ∷ b ∷ []) e = refl
no_key None (a ∷ b ∷ c ∷ []) e = refl
no_key None (a ∷ b ∷ c ∷ d ∷ []) e = refl
no_key None (a ∷ b ∷ c ∷ d ∷ f ∷ []) e = refl
no_key None (a ∷ b ∷ c ∷ d ∷ f ∷ g ∷ []) e = refl
no_key None (a ∷ b ∷ c ∷ d ∷ f ∷ g ∷ h ∷ []) e = refl
no_key (Some b4) [] e = refl
no_key (Some b4) (a ∷ []) e = refl
no_key (Some b4) (a ∷ b ∷ []) e = refl
no_key (Some b4) (a ∷ b ∷ c ∷ []) e = refl
no_key (Some b4) (a ∷ b ∷ c ∷ d ∷ []) e = refl
no_key (Some b4) (a ∷ b ∷ c ∷ d ∷ f ∷ []) e = refl
no_key (Some b4) (a ∷ b ∷ c ∷ d ∷ f ∷ g ∷ []) e = refl
no_key (Some b4) (a ∷ b ∷ c ∷ d ∷ f ∷ g ∷ h ∷ []) e = refl
no_key before (a ∷ b ∷ c ∷ d ∷ f ∷ g ∷ h ∷ i ∷ rest) e = absurd cc

pub last_falls : (before : Option ℤ) (rest : List ℕ) (key passed d : ℤ) (more : List ℕ) (total b : Bool)
    → passed ≡ key → Some ((key, d), more) ≡ first_pair rest → b ≡ key_above before passed → b ≡ false → ascending before rest ≡ total → false ≡ total
last_falls before rest key passed d more total b same e above fails so_far =
    sym (key_falls before rest passed d more (sym e ∙ ap (λ (k : ℤ). Some ((k, d), more)) (sym same)) (sym above ∙ fails)) ∙ so_far

pub all_met : (before : Option ℤ) (rest : List ℕ) (total : Bool) → None ≡ first_pair rest → ascending before rest ≡ total → true ≡ total
all_met before rest total e so_far = sym (no_key before rest (sym e)) ∙ so_far
