-- What the entries of a constant pool say of each other (JVMS 4.4), and what the texts that they name are (4.2, 4.3).
use Rattle.std.specs.Prelude.{ℕ, List, [], ◌∷◌, Bool, true, false, not, ◌&&◌, ◌||◌, ◌==◌, codes, Option, Some, None, is_some, slice_get}
use Rattle.std.specs.List.{list_all}
use Rattle.std.specs.Str.{bytes_eq}
use Rattle.jsa_names.specs.Texts.{is_within, is_mutf8}
use Rattle.jsa_names.specs.Names.{is_class_name, is_member_name, is_method_name}
use Rattle.jsa_names.specs.Types.{JavaMethod, field_type_of, method_type_of}
use Rattle.class_tree.specs.declared.constant_pool.PoolEntry.{PoolEntry}
use Rattle.class_tree.specs.declared.constant_pool.PoolEntry.TheVariants.{Unusable, Utf8, Integer, Float, Long, Double, Class, Str, Fieldref, Methodref, InterfaceMethodref, NameAndType, MethodHandle, MethodType, InvokeDynamic}

-- ---- what a text is

abbrev pub begins_array : List ℕ → Bool
begins_array [] = false
begins_array (b ∷ rest) = b == 91

abbrev pub is_field_type : List ℕ → Bool
is_field_type text = is_some (field_type_of text)

-- the name of a class, or the descriptor of an array, which has at most 255 dimensions (4.4.1)
abbrev pub is_class_or_array : List ℕ → Bool
is_class_or_array text = is_class_name text || (begins_array text && is_field_type text)

abbrev pub is_method_type : List ℕ → Bool
is_method_type text = is_some (method_type_of text)

abbrev pub is_init : List ℕ → Bool
is_init text = bytes_eq text (codes "<init>")

abbrev pub has_no_result : Option JavaMethod → Bool
has_no_result (Some m) = not (is_some m.result)
has_no_result None = false

-- a method descriptor whose result is V
abbrev pub returns_void : List ℕ → Bool
returns_void text = has_no_result (method_type_of text)

-- ---- what stands at an index

-- the text of a Utf8
abbrev pub text_in : Option PoolEntry → Option (List ℕ)
text_in (Some (Utf8 bytes)) = Some bytes
text_in _ = None

-- a text is there, and passes the test
abbrev pub holds : Option (List ℕ) → (List ℕ → Bool) → Bool
holds (Some text) test = test text
holds None test = false

-- a Utf8 whose text passes the test
abbrev pub has_text : List PoolEntry → ℕ → (List ℕ → Bool) → Bool
has_text pool index test = holds (text_in (slice_get pool index)) test

abbrev pub is_utf8 : List PoolEntry → ℕ → Bool
is_utf8 pool index = is_some (text_in (slice_get pool index))

abbrev pub is_class_in : Option PoolEntry → Bool
is_class_in (Some (Class name)) = true
is_class_in _ = false

abbrev pub is_class : List PoolEntry → ℕ → Bool
is_class pool index = is_class_in (slice_get pool index)

abbrev pub is_name_and_type_in : Option PoolEntry → Bool
is_name_and_type_in (Some (NameAndType name desc)) = true
is_name_and_type_in _ = false

abbrev pub is_name_and_type : List PoolEntry → ℕ → Bool
is_name_and_type pool index = is_name_and_type_in (slice_get pool index)

abbrev pub is_member_reference_in : Option PoolEntry → Bool
is_member_reference_in (Some (Fieldref class member)) = true
is_member_reference_in (Some (Methodref class member)) = true
is_member_reference_in (Some (InterfaceMethodref class member)) = true
is_member_reference_in _ = false

abbrev pub is_member_reference : List PoolEntry → ℕ → Bool
is_member_reference pool index = is_member_reference_in (slice_get pool index)

-- ---- what a reference to a member wants of its NameAndType

-- the name of a member, and the descriptor of a field
abbrev pub is_field_in : List PoolEntry → Option PoolEntry → Bool
is_field_in pool (Some (NameAndType name desc)) = has_text pool name is_member_name && has_text pool desc is_field_type
is_field_in pool _ = false

abbrev pub is_field : List PoolEntry → ℕ → Bool
is_field pool index = is_field_in pool (slice_get pool index)

-- the name of a method, which may be <init> and no other with '<' or '>', and the descriptor of a method
abbrev pub is_method_in : List PoolEntry → Option PoolEntry → Bool
is_method_in pool (Some (NameAndType name desc)) = has_text pool name is_method_name && has_text pool desc is_method_type
is_method_in pool _ = false

abbrev pub is_method : List PoolEntry → ℕ → Bool
is_method pool index = is_method_in pool (slice_get pool index)

-- where the name is <init>, the result V (4.4.2)
abbrev pub init_is_void_in : List PoolEntry → Option PoolEntry → Bool
init_is_void_in pool (Some (NameAndType name desc)) = not (has_text pool name is_init) || has_text pool desc returns_void
init_is_void_in pool _ = false

abbrev pub init_is_void : List PoolEntry → ℕ → Bool
init_is_void pool index = init_is_void_in pool (slice_get pool index)

-- ---- each entry

-- Each index inside an entry names an entry of the kind wanted, and each text is what it is named for. The place of a
-- bootstrap method is no index of the pool.
abbrev pub links : List PoolEntry → PoolEntry → Bool
links pool Unusable = true
links pool (Utf8 bytes) = is_mutf8 bytes
links pool (Integer bits) = true
links pool (Float bits) = true
links pool (Long bits) = true
links pool (Double bits) = true
links pool (Class name) = has_text pool name is_class_or_array
links pool (Str string) = is_utf8 pool string
links pool (Fieldref class member) = is_class pool class && is_field pool member
links pool (Methodref class member) = is_class pool class && is_method pool member && init_is_void pool member
links pool (InterfaceMethodref class member) = is_class pool class && is_method pool member
links pool (NameAndType name desc) = is_utf8 pool name && is_utf8 pool desc
links pool (MethodHandle kind member) = is_within 1 9 kind && is_member_reference pool member
links pool (MethodType desc) = is_utf8 pool desc
links pool (InvokeDynamic bootstrap member) = is_name_and_type pool member

unfoldable pub is_linked : List PoolEntry → Bool
is_linked pool = list_all (links pool) pool
