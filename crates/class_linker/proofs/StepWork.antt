-- Each step leaves less to do, and awaits the names that were awaited.
use Rattle.std.proofs.Common.{◌≡◌, ℕ, ◌+◌, ◌-◌, ◌*◌, ◌<◌, ◌^◌, List, [], ◌∷◌, ◌++◌, length, refl, sym, ◌∙◌, ap, subst, arith}
use Rattle.class_record.specs.Files.{Name}
use Rattle.class_record.specs.Loading.{is_among}
use Rattle.loaded_classes.specs.Table.{ClassTable}
use Rattle.class_linker.specs.declared.under_way.Frame.{Frame}
use Rattle.class_linker.specs.Kept.{names_under, names_loaded, advanced}
use Rattle.class_linker.specs.Paths.{without_top}
use Rattle.class_linker.specs.Steps.{IsAwaited, HasNone}
use Rattle.class_linker.specs.Work.{work}

-- ---- the names under way

names_advanced : (path : List Frame) → names_under (advanced path) ≡ names_under path
names_advanced [] = refl
names_advanced (f ∷ fs) = refl

pub awaits_advanced : (t : ClassTable) (path now : List Frame) → now ≡ advanced path → (name : Name) → IsAwaited name t path → IsAwaited name t now
awaits_advanced t path now e name h =
    ap (λ (fs : List Frame). is_among name (names_under fs ++ names_loaded t)) e
    ∙ ap (λ (ns : List Name). is_among name (ns ++ names_loaded t)) (names_advanced path) ∙ h

-- ---- the work left

less : (room a b c : ℕ) → a ≡ b → c < room → 65_538 * (2 ^ 64 + 65_536 - a) + c < 65_538 * (2 ^ 64 + 65_536 - b) + room
less room a b c e h = rw e (omega arith)

finished_one : (t u : ClassTable) (f : Frame) (fs : List Frame) → length u.classes ≡ length t.classes + 1 → work u (advanced fs) < work t (f ∷ fs)
finished_one t u f [] h = less _ _ _ _ (omega arith) (omega arith)
finished_one t u f (e ∷ fs) h = less _ _ _ _ (omega arith) (omega arith)

-- The innermost class completes, and the next one goes on.
pub finished_less : (t u : ClassTable) (path mid now : List Frame) → HasNone path → mid ≡ without_top path → now ≡ advanced mid → length u.classes ≡ length t.classes + 1 → work u now < work t path
finished_less t u [] mid now none e i h = absurd none
finished_less t u (f ∷ fs) mid now none e i h =
    subst (λ (gs : List Frame). work u gs < work t (f ∷ fs)) (sym (i ∙ ap advanced e)) (finished_one t u f fs h)
