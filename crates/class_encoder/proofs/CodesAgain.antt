-- A code that was read is read again of what is written of it.
use Rattle.std.proofs.Common.{◌≡◌, ℕ, ◌+◌, ◌<◌, ◌≤◌, Bool, true, false, codes, ◌^◌, List, [], ◌++◌, length, Option, Some, None, refl, ap, subst, ◌∙◌, arith, length-append, lit<}
use Rattle.std.specs.List.{flat_map}
use Rattle.jsa_base.specs.Reading.{◌>>=◌, IsBytes, when, all_read}
use Rattle.jsa_base.specs.Spelling.{counted, FitsLongText, FitsCounted}
use Rattle.jsa_base.proofs.Codecs.{bind_some, some_is}
use Rattle.class_tree.specs.declared.constant_pool.PoolEntry.{PoolEntry}
use Rattle.class_tree.specs.declared.tree.CodeTree.{CodeTree}
use Rattle.class_tree.specs.ClassFiles.{CodeParts, attribute, handler, code_text, FitsAttribute, FitsCode}
use Rattle.class_tree.specs.ClassReading.{code_at}
use Rattle.class_tree.specs.Trees.{have_names, content_of, code_of}
use Rattle.class_tree.specs.Encoded.{named, table_attributes, code_parts}
use Rattle.class_tree.proofs.ClassCodecs.{passed, code_codec}
use Rattle.class_tree.proofs.TreesSpelled.{codes_are_spelled}
use Rattle.class_encoder.proofs.AttributesAgain.{front_long, found, one_fits, one_has_name, one_is_found, none_have_names, none_is_found}

-- ---- the StackMapTable

abbrev table_name : List ℕ
table_name = codes "StackMapTable"

-- The table that was found is found again, under a name, and takes no more bytes than all attributes did.
record TableAgain (pool : List PoolEntry) (table : Option (List ℕ)) (before : ℕ) : Type 0 where
  fits : FitsCounted FitsAttribute (table_attributes pool table)
  named : have_names pool (table_attributes pool table) ≡ true
  found : content_of pool table_name (table_attributes pool table) ≡ Some table
  short : length (flat_map attribute (table_attributes pool table)) ≤ before

table_again : (pool : List PoolEntry) (c : CodeParts) (table : Option (List ℕ)) → FitsCounted FitsAttribute c.attributes → content_of pool table_name c.attributes ≡ Some table
    → TableAgain pool table (length (flat_map attribute c.attributes))
table_again pool c None fits h =
    record { fits = (lit< tt, tt); named = none_have_names pool; found = none_is_found pool table_name; short = omega arith }
table_again pool c (Some table) fits h =
    let f = found pool table_name table c.attributes fits h in
    record {
      fits = one_fits pool table_name table f.name_is f.fits;
      named = one_has_name pool table_name table f.name_is;
      found = one_is_found pool table_name table f.name_is;
      short = omega (arith, front_long (named pool table_name table) [], f.short);
    }

-- ---- the code

-- parts of which a code is made
record MakesCode (pool : List PoolEntry) (content : List ℕ) (code : CodeTree) : Type 0 where
  parts : CodeParts
  written : content ≡ code_text parts
  fits : FitsCode parts
  table : Option (List ℕ)
  found : content_of pool table_name parts.attributes ≡ Some table
  is : record { stack = parts.stack; locals = parts.locals; bytes = parts.bytes; handlers = parts.handlers; «map» = table } ≡ code

abbrev with_table : CodeParts → Option (List ℕ) → CodeTree
with_table c table = record { stack = c.stack; locals = c.locals; bytes = c.bytes; handlers = c.handlers; «map» = table }

abbrev behind_names : List PoolEntry → CodeParts → Option CodeTree
behind_names pool c = content_of pool table_name c.attributes >>= λ table. Some (with_table c table)

abbrev behind_parts : List PoolEntry → CodeParts → Option CodeTree
behind_parts pool c = when (have_names pool c.attributes) >>= λ named. behind_names pool c

makes_code : (pool : List PoolEntry) (content : List ℕ) (code : CodeTree) → IsBytes content → code_of pool content ≡ Some code → MakesCode pool content code
unfolding code_of
makes_code pool content code bytes h =
    let a = bind_some (all_read (code_at content)) (behind_parts pool) code h in
    let n = passed (have_names pool a.0.attributes) (behind_names pool a.0) code a.2 in
    let b = bind_some (content_of pool table_name a.0.attributes) (λ table. Some (with_table a.0 table)) code n.1 in
    let w = (codes_are_spelled content a.0 bytes).0 a.1 in
    record { parts = a.0; written = w.0; fits = w.1; table = b.0; found = b.1; is = some_is (with_table a.0 b.0) code b.2 }

-- What is written of a code is read as it, and is no longer than what it was read of.
pub record CodeAgain (pool : List PoolEntry) (code : CodeTree) : Type 0 where
  pub fits : FitsLongText (code_text (code_parts pool code))
  pub made : code_of pool (code_text (code_parts pool code)) ≡ Some code

-- a test that holds goes on
pub goes_on : {A : Type 0} (b : Bool) (rest : Option A) → b ≡ true → (when b >>= λ named. rest) ≡ rest
goes_on true rest h = refl
goes_on false rest h = absurd cc

made_again : (pool : List PoolEntry) (code : CodeTree) → FitsCode (code_parts pool code) → have_names pool (table_attributes pool code.«map») ≡ true
    → content_of pool table_name (table_attributes pool code.«map») ≡ Some code.«map» → code_of pool (code_text (code_parts pool code)) ≡ Some code
unfolding code_of
made_again pool code fits named found =
    let c = code_parts pool code in
    let read : all_read (code_at (code_text c)) ≡ Some c = (codes_are_spelled (code_text c) c (code_codec.bytes c fits)).1 (refl, fits) in
    ap (λ (o : Option CodeParts). o >>= behind_parts pool) read
    ∙ goes_on (have_names pool c.attributes) (behind_names pool c) named
    ∙ ap (λ (o : Option (Option (List ℕ))). o >>= λ table. Some (with_table c table)) found

-- the length of a Code's content
pub code_length : (c : CodeParts) → length (code_text c) ≡ 12 + length c.bytes + length (flat_map handler c.handlers) + length (flat_map attribute c.attributes)
code_length c =
    let a : length (c.bytes ++ (counted handler c.handlers ++ counted attribute c.attributes)) ≡ length c.bytes + length (counted handler c.handlers ++ counted attribute c.attributes) = length-append c.bytes _ in
    let b : length (counted handler c.handlers ++ counted attribute c.attributes) ≡ length (counted handler c.handlers) + length (counted attribute c.attributes) = length-append (counted handler c.handlers) _ in
    omega (arith, a, b)

parts_again : (pool : List PoolEntry) (c : CodeParts) (table : Option (List ℕ)) → FitsCode c → length (code_text c) < 2 ^ 32 → TableAgain pool table (length (flat_map attribute c.attributes))
    → CodeAgain pool (with_table c table)
parts_again pool c table fits small t =
    let code = with_table c table in
    let again : FitsCode (code_parts pool code) = record { stack = fits.stack; locals = fits.locals; bytes = fits.bytes; handlers = fits.handlers; attributes = t.fits } in
    let short : length (code_text (code_parts pool code)) < 2 ^ 32 = omega (arith, small, t.short, code_length c, code_length (code_parts pool code)) in
    record { fits = (short, code_codec.bytes (code_parts pool code) again); made = made_again pool code again t.named t.found }

pub code_again : (pool : List PoolEntry) (content : List ℕ) (code : CodeTree) → FitsLongText content → code_of pool content ≡ Some code → CodeAgain pool code
code_again pool content code fits h =
    let m = makes_code pool content code fits.1 h in
    let small : length (code_text m.parts) < 2 ^ 32 = subst (λ (x : List ℕ). length x < 2 ^ 32) m.written fits.0 in
    subst (CodeAgain pool) m.is (parts_again pool m.parts m.table m.fits small (table_again pool m.parts m.table m.fits.attributes m.found))
