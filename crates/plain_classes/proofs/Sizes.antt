-- How many bytes classes are written as.
use Rattle.std.proofs.Common.{◌≡◌, ℕ, ◌+◌, ◌*◌, ◌<◌, ◌≤◌, ◌^◌, true, ltb, List, [], ◌∷◌, length, get_or, sym, ap, ◌∙◌, subst, arith}
use Rattle.std.proofs.lemmas.Bool.{ltb-true, and_parts}
use Rattle.std.proofs.lemmas.List.{length-append}
use Rattle.std.proofs.lemmas.List.Concat.{flat_map-cons}
use Rattle.std.specs.List.{list_all}
use Rattle.jsa_base.specs.LowFirst.{low_text}
use Rattle.plain_classes.specs.declared.class.PlainClass.{PlainClass}
use Rattle.plain_classes.specs.Records.{class_text, classes_text, has_short_texts, have_short_texts}

class_at_most : (c : PlainClass) → has_short_texts c ≡ true → length (class_text c) ≤ 0x2_0000_0008
class_at_most c h =
    let p = and_parts (ltb (length c.name) 0x1_0000_0000) (ltb (length c.bytes) 0x1_0000_0000) h in
    let n : length c.name < 2 ^ 32 = ltb-true (length c.name) 0x1_0000_0000 p.0 in
    let b : length c.bytes < 2 ^ 32 = ltb-true (length c.bytes) 0x1_0000_0000 p.1 in
    omega (arith, length-append (low_text c.name) (low_text c.bytes), n, b)

length-classes : (c : PlainClass) (cs : List PlainClass) → length (classes_text (c ∷ cs)) ≡ length (class_text c) + length (classes_text cs)
length-classes c cs = ap length (flat_map-cons class_text c cs) ∙ length-append (class_text c) (classes_text cs)

pub classes_at_most : (cs : List PlainClass) → have_short_texts cs ≡ true → length (classes_text cs) ≤ 0x2_0000_0008 * length cs
classes_at_most [] h = omega arith
classes_at_most (c ∷ cs) h =
    let p = and_parts (has_short_texts c) (list_all has_short_texts cs) h in
    omega (arith, length-classes c cs, class_at_most c p.0, classes_at_most cs p.1)

-- the sum so far and the next class
pub fits_next : (size : ℕ) (rest all : List PlainClass) (first : PlainClass) → 1 ≤ length rest → first ≡ get_or rest 0 first → size + length (classes_text rest) ≡ length (classes_text all) → length all < 65536 → have_short_texts all ≡ true
    → size + length (class_text first) < 2 ^ 64
fits_next size [] all first long e total few short = absurd (omega (arith, long))
fits_next size (c ∷ cs) all first long e total few short =
    subst (λ (x : PlainClass). size + length (class_text x) < 2 ^ 64) (sym e) (omega (arith, length-classes c cs, total, few, classes_at_most all short))
