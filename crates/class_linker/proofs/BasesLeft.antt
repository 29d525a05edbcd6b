-- The next base of the innermost class.
use Rattle.std.proofs.Common.{◌≡◌, ℕ, zero, suc, List, [], ◌∷◌, drop, slice_get, Some, None, refl, sym, ap, subst, ◌∙◌}
use Rattle.std.specs.Borrow.{Bor}
use Rattle.class_record.specs.declared.bases.Base.{Base}
use Rattle.class_linker.specs.declared.loading.Next.{Next}
use Rattle.class_linker.specs.declared.under_way.Frame.{Frame}
use Rattle.class_linker.specs.Paths.{IsTop}
use Rattle.class_linker.specs.Steps.{IsNext}

drop_none : (bases : List Base) (n : ℕ) → slice_get bases n ≡ None → drop n bases ≡ []
drop_none [] zero h = refl
drop_none [] (suc n) h = refl
drop_none (b ∷ bases) zero h = absurd cc
drop_none (b ∷ bases) (suc n) h = drop_none bases n h

drop_some : (bases : List Base) (n : ℕ) (base : Base) → slice_get bases n ≡ Some base → (rest : List Base) × (drop n bases ≡ base ∷ rest)
drop_some [] n base h = absurd cc
drop_some (b ∷ bases) zero base h = let same : b ≡ base = cc in (bases, ap (λ (x : Base). x ∷ bases) same)
drop_some (b ∷ bases) (suc n) base h = drop_some bases n base h

pub next_none : (fs : List Frame) (top : Bor Frame) → IsTop fs (Some top) → slice_get top.now.bases top.now.done ≡ None → IsNext fs None
next_none [] top is h = absurd cc
next_none (f ∷ fs) top is h = drop_none f.bases f.done (subst (λ (g : Frame). slice_get g.bases g.done ≡ None) is h)

pub next_some : (fs : List Frame) (top : Bor Frame) (base : Base) (next : Next) → IsTop fs (Some top) → slice_get top.now.bases top.now.done ≡ Some base → next.name ≡ base.name → next.loader ≡ top.now.loader → IsNext fs (Some next)
next_some [] top base next is h named loaded = absurd cc
next_some (f ∷ fs) top base next is h named loaded =
    let d = drop_some f.bases f.done base (subst (λ (g : Frame). slice_get g.bases g.done ≡ Some base) is h) in
    ((base, d.0, d.1, sym named), loaded ∙ ap (λ (g : Frame). g.loader) is)
