-- How the parts of a class file are read from left to right.
use Rattle.std.specs.Prelude.{ℕ, List, ◌==◌}
use Rattle.jsa_base.specs.Reading.{◌>>=◌, Read, when, u2_at, u4_at, pair_at, made, counted_at, long_text_at}
use Rattle.class_tree.specs.declared.tree.Handler.{Handler}
use Rattle.class_tree.specs.ClassFiles.{Attribute, Member, ClassParts, CodeParts}
use Rattle.class_tree.specs.Pools.{linked_pool_at}

unfoldable pub attribute_at : List ℕ → Read Attribute
attribute_at = made (λ (name, content). record { name = name; content = content }) (pair_at u2_at long_text_at)

unfoldable pub member_at : List ℕ → Read Member
member_at = made (λ (flags, (name, (desc, attributes))). record { flags = flags; name = name; desc = desc; attributes = attributes }) (pair_at u2_at (pair_at u2_at (pair_at u2_at (counted_at attribute_at))))

unfoldable pub handler_at : List ℕ → Read Handler
handler_at = made (λ (start, (end, (handler, catch))). record { start = start; end = end; handler = handler; catch = catch }) (pair_at u2_at (pair_at u2_at (pair_at u2_at u2_at)))

unfoldable pub code_at : List ℕ → Read CodeParts
code_at =
    made (λ (stack, (locals, (bytes, (handlers, attributes)))). record { stack = stack; locals = locals; bytes = bytes; handlers = handlers; attributes = attributes })
    (pair_at u2_at (pair_at u2_at (pair_at long_text_at (pair_at (counted_at handler_at) (counted_at attribute_at)))))

-- The entries of the pool name what they are to name.
unfoldable pub parts_at : List ℕ → Read ClassParts
parts_at =
    made (λ (pool, (flags, (this, (sup, (interfaces, (fields, (methods, attributes))))))).
    record {
      pool = pool;
      flags = flags;
      this = this;
      sup = sup;
      interfaces = interfaces;
      fields = fields;
      methods = methods;
      attributes = attributes;
    })
    (pair_at linked_pool_at (pair_at u2_at (pair_at u2_at (pair_at u2_at
    (pair_at (counted_at u2_at) (pair_at (counted_at member_at) (pair_at (counted_at member_at) (counted_at attribute_at))))))))

-- the minor and the major version, behind the magic number
unfoldable pub version_at : List ℕ → Read (ℕ × ℕ)
version_at bytes = do
  magic ← u4_at bytes
  known ← when (magic.0 == 0xCAFEBABE)
  pair_at u2_at u2_at magic.1
