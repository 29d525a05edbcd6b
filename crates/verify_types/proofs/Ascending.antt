-- The places of the frames that a table declares ascend.
use Rattle.std.proofs.Common.{◌≡◌, ℕ, zero, suc, ◌+◌, ◌<◌, List, [], ◌∷◌, Option, Some, None, sym, ap, ◌∙◌, arith}
use Rattle.std.specs.Prelude.{slice_get}
use Rattle.jsa_base.specs.Reading.{◌>>=◌}
use Rattle.jsa_base.proofs.Codecs.{bind_some, some_is}
use Rattle.class_tree.specs.declared.constant_pool.PoolEntry.{PoolEntry}
use Rattle.class_tree.specs.declared.tree.CodeTree.{CodeTree}
use Rattle.verify_rules.specs.declared.types.VType.{VType}
use Rattle.verify_rules.specs.declared.types.Frame.{Frame}
use Rattle.verify_rules.specs.declared.written.WrittenFrame.{WrittenFrame}
use Rattle.verify_rules.specs.Frames.{shown_after, frame_of, place_after, frames_from, written_in, written_locals, frames_of}

-- the first of the frames, and those behind it
record Cut (pool : List PoolEntry) (c : CodeTree) (place : ℕ) (ws : List WrittenFrame) (frames : List (ℕ × Frame)) : Type 0 where
  frame : Frame
  locals : List VType
  others : List (ℕ × Frame)
  behind : frames_from pool c (Some place) locals ws ≡ Some others
  all : frames ≡ (place, frame) ∷ others

cut : (pool : List PoolEntry) (c : CodeTree) (before : Option ℕ) (locals : List VType) (w : WrittenFrame) (ws : List WrittenFrame) (frames : List (ℕ × Frame)) → frames_from pool c before locals (w ∷ ws) ≡ Some frames → Cut pool c (place_after before w.delta) ws frames
unfolding frames_from
cut pool c before locals w ws frames h =
    let place = place_after before w.delta in
    let a = bind_some (shown_after pool c.bytes locals w.change) (λ s. frame_of c s >>= λ f. frames_from pool c (Some place) s.locals ws >>= λ others. Some ((place, f) ∷ others)) frames h in
    let b = bind_some (frame_of c a.0) (λ f. frames_from pool c (Some place) a.0.locals ws >>= λ others. Some ((place, f) ∷ others)) frames a.2 in
    let d = bind_some (frames_from pool c (Some place) a.0.locals ws) (λ others. Some ((place, b.0) ∷ others)) frames b.2 in
    let made : (place, b.0) ∷ d.0 ≡ frames = some_is ((place, b.0) ∷ d.0) frames d.2 in
    let all : frames ≡ (place, b.0) ∷ d.0 = sym made in
    record { frame = b.0; locals = a.0.locals; others = d.0; behind = d.1; all = all }

none_from : (pool : List PoolEntry) (c : CodeTree) (before : Option ℕ) (locals : List VType) (frames : List (ℕ × Frame)) → frames_from pool c before locals [] ≡ Some frames → frames ≡ []
unfolding frames_from
none_from pool c before locals frames h = sym (some_is [] frames h)

-- each stands behind the frame before them
above : (pool : List PoolEntry) (c : CodeTree) (before : ℕ) (locals : List VType) (ws : List WrittenFrame) (frames : List (ℕ × Frame)) (k : ℕ) (x : ℕ × Frame) → frames_from pool c (Some before) locals ws ≡ Some frames → slice_get frames k ≡ Some x → before < x.0
above pool c before locals [] frames k x h g =
    let none : slice_get {X = ℕ × Frame} [] k ≡ Some x = sym (ap (λ (fs : List (ℕ × Frame)). slice_get fs k) (none_from pool c (Some before) locals frames h)) ∙ g in
    absurd cc
above pool c before locals (w ∷ ws) frames zero x h g =
    let t = cut pool c (Some before) locals w ws frames h in
    let first = some_is (before + w.delta + 1, t.frame) x (sym (ap (λ (fs : List (ℕ × Frame)). slice_get fs 0) t.all) ∙ g) in
    let place : before + w.delta + 1 ≡ x.0 = ap (λ (y : ℕ × Frame). y.0) first in
    omega arith
above pool c before locals (w ∷ ws) frames (suc k) x h g =
    let t = cut pool c (Some before) locals w ws frames h in
    let later = above pool c (before + w.delta + 1) t.locals ws t.others k x t.behind (sym (ap (λ (fs : List (ℕ × Frame)). slice_get fs (suc k)) t.all) ∙ g) in
    omega arith

ascend_from : (pool : List PoolEntry) (c : CodeTree) (before : Option ℕ) (locals : List VType) (ws : List WrittenFrame) (frames : List (ℕ × Frame)) (j k : ℕ) (x y : ℕ × Frame)
    → frames_from pool c before locals ws ≡ Some frames → j < k → slice_get frames j ≡ Some x → slice_get frames k ≡ Some y → x.0 < y.0
ascend_from pool c before locals [] frames j k x y h lt g i =
    let none : slice_get {X = ℕ × Frame} [] j ≡ Some x = sym (ap (λ (fs : List (ℕ × Frame)). slice_get fs j) (none_from pool c before locals frames h)) ∙ g in
    absurd cc
ascend_from pool c before locals (w ∷ ws) frames j zero x y h lt g i = absurd (omega arith)
ascend_from pool c before locals (w ∷ ws) frames zero (suc k) x y h lt g i =
    let t = cut pool c before locals w ws frames h in
    let first = some_is (place_after before w.delta, t.frame) x (sym (ap (λ (fs : List (ℕ × Frame)). slice_get fs 0) t.all) ∙ g) in
    let place : place_after before w.delta ≡ x.0 = ap (λ (z : ℕ × Frame). z.0) first in
    let later = above pool c (place_after before w.delta) t.locals ws t.others k y t.behind (sym (ap (λ (fs : List (ℕ × Frame)). slice_get fs (suc k)) t.all) ∙ i) in
    omega arith
ascend_from pool c before locals (w ∷ ws) frames (suc j) (suc k) x y h lt g i =
    let t = cut pool c before locals w ws frames h in
    ascend_from pool c (Some (place_after before w.delta)) t.locals ws t.others j k x y t.behind (omega arith)
    (sym (ap (λ (fs : List (ℕ × Frame)). slice_get fs (suc j)) t.all) ∙ g) (sym (ap (λ (fs : List (ℕ × Frame)). slice_get fs (suc k)) t.all) ∙ i)

-- The places of a code's frames ascend strictly.
pub frames_ascend : (pool : List PoolEntry) (c : CodeTree) (first : Frame) (frames : List (ℕ × Frame)) (j k : ℕ) (x y : ℕ × Frame)
    → frames_of pool c first ≡ Some frames → j < k → slice_get frames j ≡ Some x → slice_get frames k ≡ Some y → x.0 < y.0
unfolding frames_of
frames_ascend pool c first frames j k x y h lt g i =
    let a = bind_some (written_in c.map) (λ ws. frames_from pool c None (written_locals first.locals) ws) frames h in
    ascend_from pool c None (written_locals first.locals) a.0 frames j k x y a.2 lt g i
