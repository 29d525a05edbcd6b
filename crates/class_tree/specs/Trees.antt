-- Which tree the parts of a class file make (JVMS 4.5 to 4.7): which attributes are read, and which are skipped.
use Rattle.std.specs.Prelude.{ℕ, List, [], ◌∷◌, map, filter, Bool, Option, Some, None, ◌==◌, codes, if◌then◌else◌}
use Rattle.std.specs.List.{list_all}
use Rattle.std.specs.Str.{bytes_eq}
use Rattle.jsa_base.specs.Reading.{◌>>=◌, when, u2_at, all_read}
use Rattle.class_tree.specs.declared.constant_pool.PoolEntry.{PoolEntry}
use Rattle.class_tree.specs.declared.tree.CodeTree.{CodeTree}
use Rattle.class_tree.specs.declared.tree.FieldTree.{FieldTree}
use Rattle.class_tree.specs.declared.tree.MethodTree.{MethodTree}
use Rattle.class_tree.specs.declared.tree.ClassTree.{ClassTree}
use Rattle.class_tree.specs.ClassFiles.{Attribute, Member, ClassParts}
use Rattle.class_tree.specs.ClassReading.{code_at}
use Rattle.class_tree.specs.Links.{has_text, is_utf8}
use Rattle.class_tree.specs.Flags.{is_static}

-- a Utf8 with this text stands at the index
abbrev pub is_text : List PoolEntry → ℕ → List ℕ → Bool
is_text pool index text = has_text pool index (λ found. bytes_eq found text)

-- ---- attributes (4.7)

-- Each has a name, also where it is skipped.
unfoldable pub have_names : List PoolEntry → List Attribute → Bool
have_names pool attributes = list_all (λ a. is_utf8 pool a.name) attributes

-- the contents of those with this name
abbrev pub contents : List PoolEntry → List ℕ → List Attribute → List (List ℕ)
contents pool name attributes = map (λ a. a.content) (filter (λ a. is_text pool a.name name) attributes)

abbrev pub at_most_one : {A : Type 0} → List A → Option (Option A)
at_most_one [] = Some None
at_most_one (x ∷ []) = Some (Some x)
at_most_one (x ∷ (y ∷ others)) = None

-- the content of the attribute with this name, if there is one, and none where two have it
unfoldable pub content_of : List PoolEntry → List ℕ → List Attribute → Option (Option (List ℕ))
content_of pool name attributes = at_most_one (contents pool name attributes)

-- ---- fields (4.5)

-- The index of a constant stands in two bytes (4.7.2). In the tree 0 stands for none, and no constant stands at 0.
abbrev pub value_of : Option (List ℕ) → Option ℕ
value_of None = Some 0
value_of (Some content) = all_read (u2_at content) >>= λ index. if index == 0 then None else Some index

-- ConstantValue is read of a static field alone.
unfoldable pub constant_of : List PoolEntry → Member → Option (Option (List ℕ))
constant_of pool m = if is_static m.flags then content_of pool (codes "ConstantValue") m.attributes else Some None

unfoldable pub field_of : List PoolEntry → Member → Option FieldTree
field_of pool m = do
  named ← when (have_names pool m.attributes)
  content ← constant_of pool m
  value ← value_of content
  Some (record { flags = m.flags; name = m.name; desc = m.desc; value = value })

-- ---- methods (4.6)

-- The content of a Code attribute is the text of its parts, with nothing behind it (4.7.3), which is what reading it
-- gives (`CodesAreSpelled`). Its StackMapTable is kept as bytes.
unfoldable pub code_of : List PoolEntry → List ℕ → Option CodeTree
code_of pool content = do
  c ← all_read (code_at content)
  named ← when (have_names pool c.attributes)
  table ← content_of pool (codes "StackMapTable") c.attributes
  Some (record { stack = c.stack; locals = c.locals; bytes = c.bytes; handlers = c.handlers; «map» = table })

abbrev pub code_in : List PoolEntry → Option (List ℕ) → Option (Option CodeTree)
code_in pool None = Some None
code_in pool (Some content) = code_of pool content >>= λ code. Some (Some code)

unfoldable pub method_of : List PoolEntry → Member → Option MethodTree
method_of pool m = do
  named ← when (have_names pool m.attributes)
  content ← content_of pool (codes "Code") m.attributes
  code ← code_in pool content
  Some (record { flags = m.flags; name = m.name; desc = m.desc; code = code })

-- ---- the class (4.1)

-- what is made of each, where each makes something
unfoldable pub each : {A B : Type 0} → (A → Option B) → List A → Option (List B)
each make [] = Some []
each make (x ∷ xs) = do
  first ← make x
  others ← each make xs
  Some (first ∷ others)

unfoldable pub tree_of : ℕ → ClassParts → Option ClassTree
tree_of major p = do
  named ← when (have_names p.pool p.attributes)
  fields ← each (field_of p.pool) p.fields
  methods ← each (method_of p.pool) p.methods
  Some (record {
    major = major;
    flags = p.flags;
    pool = p.pool;
    this = p.this;
    sup = p.sup;
    interfaces = p.interfaces;
    fields = fields;
    methods = methods;
  })
