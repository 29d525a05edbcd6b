-- What the pieces of a manifest answer, over a store that tells and over one that doesn't.
use Rattle.std.proofs.Common.{◌≡◌, Option, Some, None, Err}
use Rattle.jsa_files.specs.declared.fault.FilesFault.{FilesFault}
use Rattle.jsa_files.specs.declared.fault.FilesFault.TheVariants.{Failed, TooLarge, TooMany, Memory}
use Rattle.jsa_files.specs.Store.{Store, Contents}
use Rattle.archive_header.specs.Making.{IfTold, Answers}

pub told_then : (o : Option Store) (P Q : Contents → Type 0) → ((c : Contents) → P c → Q c) → IfTold o P → IfTold o Q
told_then None P Q f h = tt
told_then (Some s) P Q f h = f s.contents h

pub told_both : (o : Option Store) (P Q R : Contents → Type 0) → ((c : Contents) → P c → Q c → R c) → IfTold o P → IfTold o Q → IfTold o R
told_both None P Q R f h k = tt
told_both (Some s) P Q R f h k = f s.contents h k

-- a fault of a piece is one of the whole
pub fault_then : {A B : Type 0} (o : Option Store) (limit whole : Contents → Option FilesFault) (Is : Contents → A → Type 0) (Js : Contents → B → Type 0) (P : Contents → Type 0)
    → ((c : Contents) → P c → (e : FilesFault) → limit c ≡ Some e → whole c ≡ Some e) → IfTold o P → (e : FilesFault) → Answers {A = A} o limit Is (Err e) → Answers {A = B} o whole Js (Err e)
fault_then o limit whole Is Js P f p Failed h = tt
fault_then o limit whole Is Js P f p (TooLarge size) h = told_both o P (λ c. limit c ≡ Some (TooLarge size)) (λ c. whole c ≡ Some (TooLarge size)) (λ c q e. f c q (TooLarge size) e) p h
fault_then o limit whole Is Js P f p (TooMany count) h = told_both o P (λ c. limit c ≡ Some (TooMany count)) (λ c. whole c ≡ Some (TooMany count)) (λ c q e. f c q (TooMany count) e) p h
fault_then o limit whole Is Js P f p Memory h = tt
