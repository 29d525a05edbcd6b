-- The distances of a switch, one after the other.
use Rattle.std.proofs.Common.{◌≡◌, ℕ, ◌+◌, ◌*◌, List, [], ◌∷◌, Some, None, ℤ, refl, ap, subst}
use Rattle.std.specs.Prelude.{Ok, Err}
use Rattle.std.specs.Int.{w32, cast_signed}
use Rattle.jsa_base.proofs.Codecs.{some_is}
use Rattle.verify_rules.specs.declared.ask.Ask.{Ask}
use Rattle.verify_rules.specs.declared.cause.Stop.{Stop}
use Rattle.verify_rules.specs.Asking.{Check, Checked, fine, each, and_then}
use Rattle.verify_rules.specs.Flow.{distances, pair_distances}
use Rattle.verify_rules.specs.Walking.{first_distance, first_pair}
use Rattle.type_verifier.proofs.Asked.{Leads, leads_on, leads_stop, leads_to, did_gives}

pub distances_more : (bytes more : List ℕ) (d : ℤ) → Some (d, more) ≡ first_distance bytes → distances bytes ≡ d ∷ distances more
unfolding distances
distances_more [] more d e = absurd cc
distances_more (a ∷ []) more d e = absurd cc
distances_more (a ∷ b ∷ []) more d e = absurd cc
distances_more (a ∷ b ∷ c ∷ []) more d e = absurd cc
distances_more (a ∷ b ∷ c ∷ f ∷ rest) more d e =
    let n = cast_signed w32 (16777216 * a + 65536 * b + 256 * c + f) in
    let p = some_is (d, more) (n, rest) e in
    let k : d ≡ n = ap (λ (x : ℤ × List ℕ). x.0) p in
    let m : more ≡ rest = ap (λ (x : ℤ × List ℕ). x.1) p in
    rw (k, m) refl

pub distances_done : (bytes : List ℕ) → None ≡ first_distance bytes → distances bytes ≡ []
unfolding distances
distances_done [] e = refl
distances_done (a ∷ []) e = refl
distances_done (a ∷ b ∷ []) e = refl
distances_done (a ∷ b ∷ c ∷ []) e = refl
distances_done (a ∷ b ∷ c ∷ f ∷ rest) e = absurd cc

pub pairs_more : (bytes more : List ℕ) (d : ℤ) → Some (d, more) ≡ first_pair bytes → pair_distances bytes ≡ d ∷ pair_distances more
unfolding pair_distances
pairs_more [] more d e = absurd cc
pairs_more (k ∷ []) more d e = absurd cc
pairs_more (k ∷ l ∷ []) more d e = absurd cc
pairs_more (k ∷ l ∷ m ∷ []) more d e = absurd cc
pairs_more (k ∷ l ∷ m ∷ n ∷ []) more d e = absurd cc
pairs_more (k ∷ l ∷ m ∷ n ∷ a ∷ []) more d e = absurd cc
pairs_more (k ∷ l ∷ m ∷ n ∷ a ∷ b ∷ []) more d e = absurd cc
pairs_more (k ∷ l ∷ m ∷ n ∷ a ∷ b ∷ c ∷ []) more d e = absurd cc
pairs_more (k ∷ l ∷ m ∷ n ∷ a ∷ b ∷ c ∷ f ∷ rest) more d e =
    let x = cast_signed w32 (16777216 * a + 65536 * b + 256 * c + f) in
    let p = some_is (d, more) (x, rest) e in
    let i : d ≡ x = ap (λ (y : ℤ × List ℕ). y.0) p in
    let j : more ≡ rest = ap (λ (y : ℤ × List ℕ). y.1) p in
    rw (i, j) refl

pub pairs_done : (bytes : List ℕ) → None ≡ first_pair bytes → pair_distances bytes ≡ []
unfolding pair_distances
pairs_done [] e = refl
pairs_done (k ∷ []) e = refl
pairs_done (k ∷ l ∷ []) e = refl
pairs_done (k ∷ l ∷ m ∷ []) e = refl
pairs_done (k ∷ l ∷ m ∷ n ∷ []) e = refl
pairs_done (k ∷ l ∷ m ∷ n ∷ a ∷ []) e = refl
pairs_done (k ∷ l ∷ m ∷ n ∷ a ∷ b ∷ []) e = refl
pairs_done (k ∷ l ∷ m ∷ n ∷ a ∷ b ∷ c ∷ []) e = refl
pairs_done (k ∷ l ∷ m ∷ n ∷ a ∷ b ∷ c ∷ f ∷ rest) e = absurd cc

-- ---- their loops

module _ (check : ℤ → Check) (whole : Check) (old mid : List Ask) where
  first_of : (ds more : List ℤ) (d passed : ℤ) → ds ≡ d ∷ more → passed ≡ d → each check ds ≡ and_then (check passed) (each check more)
  unfolding each
  first_of ds more d passed e p = rw (e, p) refl

  none_of : (ds : List ℤ) → ds ≡ [] → each check ds ≡ fine
  unfolding each
  none_of ds e = rw e refl

  pub one_on : {U : Type 0} (ds more : List ℤ) (d passed : ℤ) (mid2 : List Ask) (u : U) → ds ≡ d ∷ more → passed ≡ d → Leads whole (each check ds) old mid → Checked (check passed) mid mid2 (Ok u) → Leads whole (each check more) old mid2
  one_on ds more d passed mid2 u e p l h =
      leads_on whole (check passed) (λ (w : Unit {0}). each check more) old mid mid2 u tt (subst (λ (c : Check). Leads whole c old mid) (first_of ds more d passed e p) l) h

  pub one_stop : (U V : Type 0) (ds more : List ℤ) (d passed : ℤ) (new : List Ask) (stop : Stop) → ds ≡ d ∷ more → passed ≡ d → Leads whole (each check ds) old mid → Checked {U = U} (check passed) mid new (Err stop) → Checked {U = V} whole old new (Err stop)
  one_stop U V ds more d passed new stop e p l h =
      leads_stop U V whole (check passed) (λ (w : Unit {0}). each check more) old mid new stop tt tt (subst (λ (c : Check). Leads whole c old mid) (first_of ds more d passed e p) l) h

  pub all_done : {U : Type 0} (ds : List ℤ) (u : U) → ds ≡ [] → Leads whole (each check ds) old mid → Checked whole old mid (Ok u)
  all_done ds u e l = leads_to whole fine old mid mid (Ok u) tt (subst (λ (c : Check). Leads whole c old mid) (none_of ds e) l) (did_gives tt mid u)
