-- The answers for the same bytes and manifest are one.
use Rattle.std.proofs.Common.{◌≡◌, ℕ, List, Option, Some, None, Ok, Err, refl, sym, ap, subst, ◌∙◌, inl, inr}
use Rattle.std.specs.Prelude.{Result, ◌⊎◌}
use Rattle.std.proofs.lemmas.Bool.{cases_order}
use Rattle.archive_header.specs.declared.header.Header.{Header}
use Rattle.archive_header.specs.declared.folders.Folders.{Folders}
use Rattle.archive_header.specs.declared.refuse.Refuse.{Refuse}
use Rattle.archive_header.specs.declared.refuse.Refuse.TheVariants.{Short, Magic, Version, Digest, Layer, Malformed, Path, Base, Memory}
use Rattle.archive_header.specs.Folders.{IsFirstChanged}
use Rattle.plain_classes.specs.declared.class.PlainClass.{PlainClass}
use Rattle.plain_classes.specs.Archives.{archive_header, IsArchive}
use Rattle.plain_classes.proofs.Archives.{one_is}
use Rattle.archive_mapper.specs.Mapping.{IsMalformed, HasChange, IsUnchanged, Maps, IsWant, MapsAsOne, ArchivesAreMapped}
use Rattle.archive_mapper.specs.Fronts.{front_of}
use Rattle.archive_mapper.proofs.Fronts.{header_first, alone_first, body_first, layer_first}
use Rattle.archive_mapper.proofs.Archives.{archive_front}

abbrev Mapped : Type 0
Mapped = Result (List PlainClass) Refuse

-- ---- one first change

pub one_change : (kept now : Folders) (a b : Option ℕ) → IsFirstChanged kept now a → IsFirstChanged kept now b → a ≡ b
one_change kept now None None h k = refl
one_change kept now None (Some n) h k = absurd (k.0 (h n))
one_change kept now (Some n) None h k = absurd (h.0 (k n))
one_change kept now (Some n) (Some m) h k = elim (cases_order n m) [
  | inl same ↦ ap (λ (x : ℕ). Some x) same
  | inr either ↦ elim either [ inl lt ↦ absurd (h.0 (k.1 n lt)) | inr lt ↦ absurd (k.0 (h.1 m lt)) ]
]

one_told : (kept : Folders) (now : Option Folders) (a b : Option ℕ) → HasChange kept now a → HasChange kept now b → a ≡ b
one_told kept None a b h k = h ∙ sym k
one_told kept (Some current) a b h k = one_change kept current a b h k

-- ---- at which stage an answer comes

-- a refusal before the parts are looked at
record AtFront (bytes : List ℕ) (result : Mapped) : Type 0 where
  pub refuse : Refuse
  pub answer : result ≡ Err refuse
  pub front : front_of bytes ≡ Err refuse

-- no archive
record AtParts (bytes : List ℕ) (result : Mapped) : Type 0 where
  pub answer : result ≡ Err Malformed
  pub malformed : IsMalformed bytes

abbrev answer_of : List PlainClass → Option ℕ → Mapped
answer_of classes None = Ok classes
answer_of classes (Some number) = Err (Path number)

-- an archive, and what changed
record AtChanges (bytes : List ℕ) (now : Option Folders) (result : Mapped) : Type 0 where
  pub classes : List PlainClass
  pub kept : Folders
  pub archive : IsArchive bytes classes kept
  pub change : Option ℕ
  pub told : HasChange kept now change
  pub answer : result ≡ answer_of classes change

abbrev Stage : List ℕ → Option Folders → Mapped → Type 0
Stage bytes now result = AtFront bytes result ⊎ (AtParts bytes result ⊎ AtChanges bytes now result)

unchanged_told : (kept : Folders) (now : Option Folders) → IsUnchanged kept now → HasChange kept now None
unchanged_told kept None h = refl
unchanged_told kept (Some current) h = h

at_front : (bytes : List ℕ) (now : Option Folders) (refuse : Refuse) → front_of bytes ≡ Err refuse → Stage bytes now (Err refuse)
at_front bytes now refuse front = inl (record { refuse = refuse; answer = refl; front = front })

stage : (bytes : List ℕ) (now : Option Folders) (result : Mapped) → Maps bytes now result → (IsWant result → ⊥) → Stage bytes now result
stage bytes now (Ok classes) is some = inr (inr (record { classes = classes; kept = is.kept; archive = is.archive; change = None; told = unchanged_told is.kept now is.unchanged; answer = refl }))
stage bytes now (Err Short) is some = at_front bytes now Short (header_first bytes Short is)
stage bytes now (Err Magic) is some = at_front bytes now Magic (header_first bytes Magic is)
stage bytes now (Err (Version format)) is some = at_front bytes now (Version format) (header_first bytes (Version format) is)
stage bytes now (Err (Digest kept found)) (inl is) some = at_front bytes now (Digest kept found) (header_first bytes (Digest kept found) is)
stage bytes now (Err (Digest kept found)) (inr is) some = at_front bytes now (Digest kept found) (body_first bytes kept found is)
stage bytes now (Err (Layer kept found)) is some = at_front bytes now (Layer kept found) (layer_first bytes kept found is)
stage bytes now (Err Malformed) is some = inr (inl (record { answer = refl; malformed = is }))
stage bytes now (Err (Path number)) is some =
    inr (inr (record { classes = is.classes; kept = is.kept; archive = is.archive; change = Some number; told = subst (λ (n : Option Folders). HasChange is.kept n (Some number)) (sym is.known) is.changed; answer = refl }))
stage bytes now (Err (Base base span)) is some = absurd is
stage bytes now (Err Memory) is some = absurd (some refl)

-- ---- one answer

ok_err : (h : Header) (refuse : Refuse) → ◌≡◌ {A = Result Header Refuse} (Err refuse) (Ok h) → ⊥
ok_err h refuse e = cc

err_is : (a b : Refuse) → ◌≡◌ {A = Result Header Refuse} (Err a) (Err b) → a ≡ b
err_is a b e = cc

same_front : (bytes : List ℕ) (r s : Mapped) → AtFront bytes r → AtFront bytes s → r ≡ s
same_front bytes r s a b = a.answer ∙ ap (λ (x : Refuse). Err x) (err_is a.refuse b.refuse (sym a.front ∙ b.front)) ∙ sym b.answer

front_malformed : (bytes : List ℕ) (r : Mapped) → AtFront bytes r → IsMalformed bytes → ⊥
front_malformed bytes r a m = ok_err m.header a.refuse (sym a.front ∙ alone_first bytes m.header m.alone)

front_archive : (bytes : List ℕ) (r : Mapped) (classes : List PlainClass) (kept : Folders) → AtFront bytes r → IsArchive bytes classes kept → ⊥
front_archive bytes r classes kept a is = ok_err (archive_header classes kept) a.refuse (sym a.front ∙ archive_front bytes classes kept is)

same_changes : (bytes : List ℕ) (now : Option Folders) (r s : Mapped) → AtChanges bytes now r → AtChanges bytes now s → r ≡ s
same_changes bytes now r s a b =
    let one = one_is bytes a.classes b.classes a.kept b.kept a.archive b.archive in
    let told : HasChange b.kept now a.change = subst (λ (k : Folders). HasChange k now a.change) one.1 a.told in
    a.answer
    ∙ ap (λ (c : List PlainClass). answer_of c a.change) one.0
    ∙ ap (answer_of b.classes) (one_told b.kept now a.change b.change told b.told)
    ∙ sym b.answer

same_stage : (bytes : List ℕ) (now : Option Folders) (r s : Mapped) → Stage bytes now r → Stage bytes now s → r ≡ s
same_stage bytes now r s (inl a) (inl b) = same_front bytes r s a b
same_stage bytes now r s (inl a) (inr (inl b)) = absurd (front_malformed bytes r a b.malformed)
same_stage bytes now r s (inl a) (inr (inr b)) = absurd (front_archive bytes r b.classes b.kept a b.archive)
same_stage bytes now r s (inr (inl a)) (inl b) = absurd (front_malformed bytes s b a.malformed)
same_stage bytes now r s (inr (inl a)) (inr (inl b)) = a.answer ∙ sym b.answer
same_stage bytes now r s (inr (inl a)) (inr (inr b)) = absurd (a.malformed.none b.classes b.kept b.archive)
same_stage bytes now r s (inr (inr a)) (inl b) = absurd (front_archive bytes s a.classes a.kept b a.archive)
same_stage bytes now r s (inr (inr a)) (inr (inl b)) = absurd (b.malformed.none a.classes a.kept a.archive)
same_stage bytes now r s (inr (inr a)) (inr (inr b)) = same_changes bytes now r s a b

pub as_one : MapsAsOne
as_one bytes now r s a b some_r some_s = same_stage bytes now r s (stage bytes now r a some_r) (stage bytes now s b some_s)

-- ---- an archive is mapped

is_want : (result : Mapped) → IsWant result ⊎ (IsWant result → ⊥)
is_want (Ok classes) = inr (λ e. absurd cc)
is_want (Err Short) = inr (λ e. absurd cc)
is_want (Err Magic) = inr (λ e. absurd cc)
is_want (Err (Version format)) = inr (λ e. absurd cc)
is_want (Err (Digest kept found)) = inr (λ e. absurd cc)
is_want (Err (Layer kept found)) = inr (λ e. absurd cc)
is_want (Err Malformed) = inr (λ e. absurd cc)
is_want (Err (Path number)) = inr (λ e. absurd cc)
is_want (Err (Base base span)) = inr (λ e. absurd cc)
is_want (Err Memory) = inl refl

pub are_mapped : ArchivesAreMapped
are_mapped bytes classes kept current result archive unchanged maps = elim (is_want result) [
  | inl want ↦ inr want
  | inr some ↦ inl (same_stage bytes (Some current) result (Ok classes) (stage bytes (Some current) result maps some) (mapped archive unchanged))
] where
  mapped : IsArchive bytes classes kept → IsFirstChanged kept current None → Stage bytes (Some current) (Ok classes)
  mapped is same = inr (inr (record { classes = classes; kept = kept; archive = is; change = None; told = same; answer = refl }))
