-- The narrowings of the first form: which class trees have it, the code of `main` aside.
use Rattle.std.specs.Prelude.{ℕ, List, [], length, Bool, true, false, Option, Some, None, ◌==◌, ◌&&◌, ◌||◌, not, nat_le, bit_or, is_some, unwrap_or, codes}
use Rattle.std.specs.List.{list_all, list_any}
use Rattle.std.specs.Str.{bytes_eq}
use Rattle.class_tree.specs.declared.constant_pool.PoolEntry.{PoolEntry}
use Rattle.class_tree.specs.declared.constant_pool.PoolEntry.TheVariants.{Unusable, Utf8, Integer, Class, Methodref, NameAndType}
use Rattle.class_tree.specs.declared.tree.CodeTree.{CodeTree}
use Rattle.class_tree.specs.declared.tree.MethodTree.{MethodTree}
use Rattle.class_tree.specs.declared.tree.ClassTree.{ClassTree}
use Rattle.class_tree.specs.declared.flags.TheConstants.{ACC_PUBLIC, ACC_PRIVATE, ACC_STATIC, ACC_NATIVE, ACC_SUPER}
use Rattle.class_tree.specs.Trees.{is_text}
use Rattle.class_tree.specs.WellFormed.{class_name, is_object_class}

-- ---- the constant pool (4.4)

-- a character of one byte that isn't 0 (4.4.7)
abbrev pub is_ascii : ℕ → Bool
is_ascii b = nat_le 1 b && nat_le b 127

-- ()V or (I)V
abbrev pub has_known_type : List PoolEntry → ℕ → Bool
has_known_type pool desc = is_text pool desc (codes "()V") || is_text pool desc (codes "(I)V")

-- a text of one-byte characters, or the name of the class
abbrev pub is_known_text : List ℕ → List ℕ → Bool
is_known_text own bytes = list_all is_ascii bytes || bytes_eq bytes own

-- Of a class with this name an entry is of one of five kinds. A NameAndType has one of two descriptors.
unfoldable pub is_known_entry : List PoolEntry → List ℕ → PoolEntry → Bool
is_known_entry pool own Unusable = true
is_known_entry pool own (Utf8 bytes) = is_known_text own bytes
is_known_entry pool own (Integer bits) = true
is_known_entry pool own (Class name) = true
is_known_entry pool own (Methodref class member) = true
is_known_entry pool own (NameAndType name desc) = has_known_type pool desc
is_known_entry pool own _ = false

unfoldable pub are_known_entries : List PoolEntry → List ℕ → Bool
are_known_entries pool own = list_all (is_known_entry pool own) pool

-- ---- methods (4.6)

-- public static void main(String[])
abbrev pub is_main : List PoolEntry → MethodTree → Bool
is_main pool m = m.flags == bit_or ACC_PUBLIC ACC_STATIC && is_text pool m.name (codes "main") && is_text pool m.desc (codes "([Ljava/lang/String;)V")

-- a constructor without parameters, public or package-private
abbrev pub is_init : List PoolEntry → MethodTree → Bool
is_init pool m = (m.flags == 0 || m.flags == ACC_PUBLIC) && is_text pool m.name (codes "<init>") && is_text pool m.desc (codes "()V")

abbrev static_native : ℕ
static_native = bit_or ACC_STATIC ACC_NATIVE

-- static native void put(int), package-private, public or private
abbrev pub is_put : List PoolEntry → MethodTree → Bool
is_put pool m = (m.flags == static_native || m.flags == bit_or ACC_PUBLIC static_native || m.flags == bit_or ACC_PRIVATE static_native) && is_text pool m.name (codes "put") && is_text pool m.desc (codes "(I)V")

-- no handlers (4.7.3) and no frames (4.7.4)
abbrev pub is_plain_code : CodeTree → Bool
is_plain_code c = length c.handlers == 0 && not (is_some c.map)

-- The code, where there is any, is plain.
abbrev pub has_plain_code : Option CodeTree → Bool
has_plain_code None = true
has_plain_code (Some c) = is_plain_code c

-- one of the three methods
abbrev pub is_known_method : List PoolEntry → MethodTree → Bool
is_known_method pool m = (is_main pool m || is_init pool m || is_put pool m) && has_plain_code m.code

unfoldable pub are_known_methods : List PoolEntry → List MethodTree → Bool
are_known_methods pool methods = list_all (is_known_method pool) methods

unfoldable pub declares_put : List PoolEntry → List MethodTree → Bool
declares_put pool methods = list_any (is_put pool) methods

-- ---- the class (4.1)

-- A class of version 52, public or package-private, directly under java/lang/Object, with no interfaces and no fields
unfoldable pub has_known_head : ClassTree → Bool
has_known_head t =
    t.major == 52
    && (t.flags == ACC_SUPER || t.flags == bit_or ACC_PUBLIC ACC_SUPER)
    && is_object_class t.pool t.sup
    && length t.interfaces == 0
    && length t.fields == 0

-- No two methods of a tree are alike, so each of the three is there at most once.
unfoldable pub has_form : ClassTree → Bool
has_form t = has_known_head t && are_known_entries t.pool (unwrap_or (class_name t.pool t.this) []) && are_known_methods t.pool t.methods
