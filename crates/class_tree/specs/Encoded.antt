-- How a class tree is written (JVMS 4.1): its parts with the attributes that the tree keeps, and no others.
use Rattle.std.specs.Prelude.{ℕ, List, [], ◌∷◌, map, position, Bool, ◌==◌, codes, Option, Some, None, if◌then◌else◌}
use Rattle.std.specs.Str.{bytes_eq}
use Rattle.jsa_base.specs.Spelling.{u2}
use Rattle.class_tree.specs.declared.constant_pool.PoolEntry.{PoolEntry}
use Rattle.class_tree.specs.declared.tree.CodeTree.{CodeTree}
use Rattle.class_tree.specs.declared.tree.FieldTree.{FieldTree}
use Rattle.class_tree.specs.declared.tree.MethodTree.{MethodTree}
use Rattle.class_tree.specs.declared.tree.ClassTree.{ClassTree}
use Rattle.class_tree.specs.ClassFiles.{Attribute, Member, ClassParts, CodeParts, code_text, class_text}
use Rattle.class_tree.specs.Links.{text_in, holds}
use Rattle.class_tree.specs.Spells.{Spells}

-- ---- the name of an attribute

-- a Utf8 with this text
abbrev pub has_this_text : List ℕ → PoolEntry → Bool
has_this_text text e = holds (text_in (Some e)) (λ found. bytes_eq found text)

abbrev pub or_0 : Option ℕ → ℕ
or_0 (Some index) = index
or_0 None = 0

-- the index of the first Utf8 with this text, or 0 where there is none
unfoldable pub index_of_text : List PoolEntry → List ℕ → ℕ
index_of_text pool text = or_0 (position (has_this_text text) pool)

abbrev pub named : List PoolEntry → List ℕ → List ℕ → Attribute
named pool name content = record { name = index_of_text pool name; content = content }

-- ---- fields (4.5)

-- the ConstantValue of a field that has a constant (4.7.2)
abbrev pub constant_attributes : List PoolEntry → ℕ → List Attribute
constant_attributes pool value = if value == 0 then [] else named pool (codes "ConstantValue") (u2 value) ∷ []

abbrev pub field_member : List PoolEntry → FieldTree → Member
field_member pool f = record { flags = f.flags; name = f.name; desc = f.desc; attributes = constant_attributes pool f.value }

-- ---- methods (4.6)

-- the StackMapTable of a code that has one (4.7.4)
abbrev pub table_attributes : List PoolEntry → Option (List ℕ) → List Attribute
table_attributes pool None = []
table_attributes pool (Some table) = named pool (codes "StackMapTable") table ∷ []

abbrev pub code_parts : List PoolEntry → CodeTree → CodeParts
code_parts pool c = record { stack = c.stack; locals = c.locals; bytes = c.bytes; handlers = c.handlers; attributes = table_attributes pool c.«map» }

-- the Code of a method that has any (4.7.3)
abbrev pub code_attributes : List PoolEntry → Option CodeTree → List Attribute
code_attributes pool None = []
code_attributes pool (Some c) = named pool (codes "Code") (code_text (code_parts pool c)) ∷ []

abbrev pub method_member : List PoolEntry → MethodTree → Member
method_member pool m = record { flags = m.flags; name = m.name; desc = m.desc; attributes = code_attributes pool m.code }

-- ---- the class (4.1)

abbrev pub parts_of : ClassTree → ClassParts
parts_of t = record {
  pool = t.pool;
  flags = t.flags;
  this = t.this;
  sup = t.sup;
  interfaces = t.interfaces;
  fields = map (field_member t.pool) t.fields;
  methods = map (method_member t.pool) t.methods;
  attributes = [];
}

-- the text of a tree
unfoldable pub encoded : ClassTree → List ℕ
encoded t = class_text 0 t.major (parts_of t)

-- What is written of a tree that some bytes spell spells it.
abbrev pub EncodedSpells : Type 0
EncodedSpells = (bytes : List ℕ) (t : ClassTree) → Spells bytes t → Spells (encoded t) t
