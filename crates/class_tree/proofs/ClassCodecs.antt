-- The codecs of a class file's parts: what is read is spelled so, and what is spelled so is read.
use Rattle.std.proofs.Common.{◌≡◌, ℕ, Bool, true, false, eqb, List, ◌++◌, Option, Some, IsTrue, refl, ap, ◌∙◌, lit<}
use Rattle.std.proofs.lemmas.Bool.{eqb-true}
use Rattle.jsa_base.specs.Reading.{◌>>=◌, Read, IsBytes, when, u2_at, u4_at, pair_at, counted_at, long_text_at}
use Rattle.jsa_base.specs.Spelling.{u2, u4, long_text, counted, Fits2, FitsLongText, FitsCounted}
use Rattle.jsa_base.specs.Codec.{Took, Codec}
use Rattle.jsa_base.proofs.Codecs.{append-IsBytes, bind_some, u2_codec, u4_codec, long_text_codec, pair_codec, made_codec, counted_codec}
use Rattle.class_tree.specs.Entries.{pool_text}
use Rattle.class_tree.specs.Links.{is_linked}
use Rattle.class_tree.specs.Pools.{linked_pool_at}
use Rattle.class_tree.specs.ClassFiles.{ClassParts, attribute, member, handler, code_text, parts_text, version_text, FitsAttribute, FitsMember, FitsHandler, FitsCode, FitsParts}
use Rattle.class_tree.specs.ClassReading.{attribute_at, member_at, handler_at, code_at, parts_at, version_at}
use Rattle.class_tree.proofs.Spelled.{FitsLinkedPool, linked_codec}

-- a test that held
pub passed : {A : Type 0} (b : Bool) (rest : Option A) (y : A) → (when b >>= λ known. rest) ≡ Some y → (b ≡ true) × (rest ≡ Some y)
passed true rest y h = (refl, h)
passed false rest y h = absurd cc

-- ---- attributes, members, handlers and the content of a Code

attribute_codec : Codec attribute_at attribute FitsAttribute
unfolding attribute_at
attribute_codec =
    made_codec (pair_at u2_at long_text_at) (λ p. u2 p.0 ++ long_text p.1) (λ p. Fits2 p.0 × FitsLongText p.1) (λ p. record { name = p.0; content = p.1 }) (λ a. (a.name, a.content)) attribute FitsAttribute
    (pair_codec u2_at long_text_at u2 long_text Fits2 FitsLongText u2_codec long_text_codec)
    (λ b h. refl) (λ a. refl) (λ b. refl) (λ a h. record { name = h.0; content = h.1 }) (λ b h. (h.name, h.content))

attributes : Codec (counted_at attribute_at) (counted attribute) (FitsCounted FitsAttribute)
attributes = counted_codec attribute_at attribute FitsAttribute attribute_codec

member_codec : Codec member_at member FitsMember
unfolding member_at
member_codec =
    let b = pair_codec u2_at (counted_at attribute_at) u2 (counted attribute) Fits2 (FitsCounted FitsAttribute) u2_codec attributes in
    let c = pair_codec u2_at _ u2 _ Fits2 _ u2_codec b in
    let d = pair_codec u2_at _ u2 _ Fits2 _ u2_codec c in
    made_codec _ _ _ (λ p. record { flags = p.0; name = p.1.0; desc = p.1.1.0; attributes = p.1.1.1 }) (λ m. (m.flags, (m.name, (m.desc, m.attributes)))) member FitsMember
    d (λ b h. refl) (λ a. refl) (λ b. refl) (λ a h. record { flags = h.0; name = h.1.0; desc = h.1.1.0; attributes = h.1.1.1 }) (λ b h. (h.flags, (h.name, (h.desc, h.attributes))))

handler_codec : Codec handler_at handler FitsHandler
unfolding handler_at
handler_codec =
    let b = pair_codec u2_at u2_at u2 u2 Fits2 Fits2 u2_codec u2_codec in
    let c = pair_codec u2_at _ u2 _ Fits2 _ u2_codec b in
    let d = pair_codec u2_at _ u2 _ Fits2 _ u2_codec c in
    made_codec _ _ _ (λ p. record { start = p.0; end = p.1.0; handler = p.1.1.0; catch = p.1.1.1 }) (λ h. (h.start, (h.end, (h.handler, h.catch)))) handler FitsHandler
    d (λ b h. refl) (λ a. refl) (λ b. refl) (λ a h. record { start = h.0; end = h.1.0; handler = h.1.1.0; catch = h.1.1.1 }) (λ b h. (h.start, (h.end, (h.handler, h.catch))))

pub code_codec : Codec code_at code_text FitsCode
unfolding code_at
code_codec =
    let handlers = counted_codec handler_at handler FitsHandler handler_codec in
    let b = pair_codec (counted_at handler_at) (counted_at attribute_at) (counted handler) (counted attribute) (FitsCounted FitsHandler) (FitsCounted FitsAttribute) handlers attributes in
    let c = pair_codec long_text_at _ long_text _ FitsLongText _ long_text_codec b in
    let d = pair_codec u2_at _ u2 _ Fits2 _ u2_codec c in
    let e = pair_codec u2_at _ u2 _ Fits2 _ u2_codec d in
    made_codec _ _ _ (λ p. record { stack = p.0; locals = p.1.0; bytes = p.1.1.0; handlers = p.1.1.1.0; attributes = p.1.1.1.1 }) (λ c. (c.stack, (c.locals, (c.bytes, (c.handlers, c.attributes))))) code_text FitsCode
    e (λ b h. refl) (λ a. refl) (λ b. refl) (λ a h. record { stack = h.0; locals = h.1.0; bytes = h.1.1.0; handlers = h.1.1.1.0; attributes = h.1.1.1.1 }) (λ b h. (h.stack, (h.locals, (h.bytes, (h.handlers, h.attributes)))))

-- ---- the class

pub record FitsLinked (p : ClassParts) : Type 0 where
  pub parts : FitsParts p
  pub linked : IsTrue (is_linked p.pool)

pub parts_codec : Codec parts_at parts_text FitsLinked
unfolding parts_at
parts_codec =
    let members = counted_codec member_at member FitsMember member_codec in
    let indices = counted_codec u2_at u2 Fits2 u2_codec in
    let b = pair_codec (counted_at member_at) (counted_at attribute_at) (counted member) (counted attribute) (FitsCounted FitsMember) (FitsCounted FitsAttribute) members attributes in
    let c = pair_codec (counted_at member_at) _ (counted member) _ (FitsCounted FitsMember) _ members b in
    let d = pair_codec (counted_at u2_at) _ (counted u2) _ (FitsCounted Fits2) _ indices c in
    let e = pair_codec u2_at _ u2 _ Fits2 _ u2_codec d in
    let f = pair_codec u2_at _ u2 _ Fits2 _ u2_codec e in
    let g = pair_codec u2_at _ u2 _ Fits2 _ u2_codec f in
    let h = pair_codec linked_pool_at _ pool_text _ FitsLinkedPool _ linked_codec g in
    made_codec _ _ _ (λ p. record { pool = p.0; flags = p.1.0; this = p.1.1.0; sup = p.1.1.1.0; interfaces = p.1.1.1.1.0; fields = p.1.1.1.1.1.0; methods = p.1.1.1.1.1.1.0; attributes = p.1.1.1.1.1.1.1 })
    (λ p. (p.pool, (p.flags, (p.this, (p.sup, (p.interfaces, (p.fields, (p.methods, p.attributes)))))))) parts_text FitsLinked
    h (λ b h. refl) (λ a. refl) (λ b. refl)
    (λ a h. record { parts = record { pool = h.0.0; flags = h.1.0; this = h.1.1.0; sup = h.1.1.1.0; interfaces = h.1.1.1.1.0; fields = h.1.1.1.1.1.0; methods = h.1.1.1.1.1.1.0; attributes = h.1.1.1.1.1.1.1 }; linked = h.0.1 })
    (λ b h. ((h.parts.pool, h.linked), (h.parts.flags, (h.parts.this, (h.parts.sup, (h.parts.interfaces, (h.parts.fields, (h.parts.methods, h.parts.attributes))))))))

-- ---- the version

versions : Codec (pair_at u2_at u2_at) (λ (p : ℕ × ℕ). u2 p.0 ++ u2 p.1) (λ (p : ℕ × ℕ). Fits2 p.0 × Fits2 p.1)
versions = pair_codec u2_at u2_at u2 u2 Fits2 Fits2 u2_codec u2_codec

-- what follows the magic number
abbrev behind_magic : ℕ × List ℕ → Read (ℕ × ℕ)
behind_magic magic = when (eqb magic.0 0xCAFEBABE) >>= λ known. pair_at u2_at u2_at magic.1

pub version_codec : Codec version_at (λ (v : ℕ × ℕ). version_text v.0 v.1) (λ (v : ℕ × ℕ). Fits2 v.0 × Fits2 v.1)
unfolding version_at
version_codec = record { takes = takes; again = again; bytes = bytes } where
  takes : (bytes : List ℕ) (v : ℕ × ℕ) (rest : List ℕ) → IsBytes bytes → (u4_at bytes >>= behind_magic) ≡ Some (v, rest) → Took (λ (v : ℕ × ℕ). version_text v.0 v.1) (λ (v : ℕ × ℕ). Fits2 v.0 × Fits2 v.1) bytes v rest
  takes bytes v rest fits h =
      let a = bind_some (u4_at bytes) behind_magic (v, rest) h in
      let t = u4_codec.takes bytes a.0.0 a.0.1 fits a.1 in
      let g = passed (eqb a.0.0 0xCAFEBABE) (pair_at u2_at u2_at a.0.1) (v, rest) a.2 in
      let n : a.0.0 ≡ 0xCAFEBABE = eqb-true _ _ g.0 in
      let p = versions.takes a.0.1 v rest t.rest_bytes g.1 in
      let parts : bytes ≡ version_text v.0 v.1 ++ rest = t.parts ∙ ap (λ (k : ℕ). u4 k ++ a.0.1) n ∙ ap (λ (r : List ℕ). u4 0xCAFEBABE ++ r) p.parts in
      record { parts = parts; rest_bytes = p.rest_bytes; fits = p.fits }

  again : (v : ℕ × ℕ) (rest : List ℕ) → Fits2 v.0 × Fits2 v.1 → (u4_at (version_text v.0 v.1 ++ rest) >>= behind_magic) ≡ Some (v, rest)
  again v rest fits = versions.again v rest fits

  bytes : (v : ℕ × ℕ) → Fits2 v.0 × Fits2 v.1 → IsBytes (version_text v.0 v.1)
  bytes v fits = append-IsBytes (u4 0xCAFEBABE) (u2 v.0 ++ u2 v.1) (u4_codec.bytes 0xCAFEBABE (lit< tt)) (versions.bytes v fits)
