-- Laws of what a sink took.
use Rattle.std.proofs.Common.{ℕ, List, [], ◌++◌, Option, Some, None, refl, sym, ap, ◌∙◌, append_assoc}
use Rattle.std.proofs.lemmas.List.{append-nil}
use Rattle.jsa_files.specs.Sinks.{GrowsBy, GrowsByFront}

pub grows_nothing : (a : Option (List ℕ)) → GrowsBy a a []
grows_nothing None = tt
grows_nothing (Some xs) = sym (append-nil xs)

pub grows_then : (a b c : Option (List ℕ)) (x y : List ℕ) → GrowsBy a b x → GrowsBy b c y → GrowsBy a c (x ++ y)
grows_then None None None x y p q = tt
grows_then None None (Some zs) x y p q = absurd q
grows_then None (Some ys) c x y p q = absurd p
grows_then (Some xs) None c x y p q = absurd p
grows_then (Some xs) (Some ys) None x y p q = absurd q
grows_then (Some xs) (Some ys) (Some zs) x y p q = q ∙ ap (λ (u : List ℕ). u ++ y) p ∙ append_assoc xs x y

-- Where nothing was taken, the empty front was.
pub front_nothing : (a : Option (List ℕ)) (bytes : List ℕ) → GrowsByFront a a bytes
front_nothing a bytes = record { front = []; tail = bytes; whole = refl; grows = grows_nothing a }

-- All of the bytes are a front of them.
pub front_of_whole : (a b : Option (List ℕ)) (bytes : List ℕ) → GrowsBy a b bytes → GrowsByFront a b bytes
front_of_whole a b bytes h = record { front = bytes; tail = []; whole = sym (append-nil bytes); grows = h }

-- A front of the later bytes, after the whole of the earlier ones.
pub front_then : (a b c : Option (List ℕ)) (x y : List ℕ) → GrowsBy a b x → GrowsByFront b c y → GrowsByFront a c (x ++ y)
front_then a b c x y p q =
    record {
      front = x ++ q.front;
      tail = q.tail;
      whole = ap (λ (u : List ℕ). x ++ u) q.whole ∙ sym (append_assoc x q.front q.tail);
      grows = grows_then a b c x q.front p q.grows;
    }

-- A front of some bytes is a front of more.
pub front_more : (a b : Option (List ℕ)) (x y : List ℕ) → GrowsByFront a b x → GrowsByFront a b (x ++ y)
front_more a b x y p =
    record {
      front = p.front;
      tail = p.tail ++ y;
      whole = ap (λ (u : List ℕ). u ++ y) p.whole ∙ append_assoc p.front p.tail y;
      grows = p.grows;
    }
