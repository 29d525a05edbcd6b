-- The access flags by their names, and which may stand together (JVMS 4.1, 4.5, 4.6). Bits that no line names aren't
-- looked at.
use Rattle.std.specs.Prelude.{ℕ, Bool, not, ◌&&◌, ◌||◌, ◌==◌, bit_and, if◌then◌else◌}
use Rattle.class_tree.specs.declared.flags.TheConstants.{ACC_PUBLIC, ACC_PRIVATE, ACC_PROTECTED, ACC_STATIC, ACC_FINAL, ACC_SYNCHRONIZED, ACC_VOLATILE, ACC_NATIVE, ACC_INTERFACE, ACC_ABSTRACT, ACC_STRICT, ACC_ANNOTATION}

abbrev pub has : ℕ → ℕ → Bool
has flags bit = not (bit_and flags bit == 0)

abbrev pub is_public : ℕ → Bool
is_public flags = has flags ACC_PUBLIC

abbrev pub is_private : ℕ → Bool
is_private flags = has flags ACC_PRIVATE

abbrev pub is_protected : ℕ → Bool
is_protected flags = has flags ACC_PROTECTED

abbrev pub is_static : ℕ → Bool
is_static flags = has flags ACC_STATIC

abbrev pub is_final : ℕ → Bool
is_final flags = has flags ACC_FINAL

abbrev pub is_synchronized : ℕ → Bool
is_synchronized flags = has flags ACC_SYNCHRONIZED

abbrev pub is_volatile : ℕ → Bool
is_volatile flags = has flags ACC_VOLATILE

abbrev pub is_native : ℕ → Bool
is_native flags = has flags ACC_NATIVE

abbrev pub is_interface : ℕ → Bool
is_interface flags = has flags ACC_INTERFACE

abbrev pub is_abstract : ℕ → Bool
is_abstract flags = has flags ACC_ABSTRACT

abbrev pub is_strict : ℕ → Bool
is_strict flags = has flags ACC_STRICT

abbrev pub is_annotation : ℕ → Bool
is_annotation flags = has flags ACC_ANNOTATION

-- at most one of public, private and protected
abbrev pub has_one_access : ℕ → Bool
has_one_access flags =
    not (is_public flags && is_private flags) && not (is_public flags && is_protected flags) && not (is_private flags && is_protected flags)

-- An interface is abstract and not final. A class isn't both, and is no annotation (4.1).
unfoldable pub are_class_flags : ℕ → Bool
are_class_flags flags =
    if is_interface flags then is_abstract flags && not (is_final flags)
    else not (is_final flags && is_abstract flags) && not (is_annotation flags)

-- A field isn't both final and volatile. One of an interface is public, static and final (4.5).
unfoldable pub are_field_flags : Bool → ℕ → Bool
are_field_flags in_interface flags =
    has_one_access flags && not (is_final flags && is_volatile flags) && (not in_interface || (is_public flags && is_static flags && is_final flags))

-- An abstract method is none of private, static, final, synchronized, native and strict (4.6).
abbrev pub suits_abstract : ℕ → Bool
suits_abstract flags =
    not (is_abstract flags)
    || (not (is_private flags) && not (is_static flags) && not (is_final flags) && not (is_synchronized flags) && not (is_native flags) && not (is_strict flags))

-- A method of an interface is public and abstract in versions below 52. At 52 it is public or private, and none of
-- protected, final, synchronized and native (4.6). That it isn't both public and private is `has_one_access`.
abbrev pub suits_interface : ℕ → ℕ → Bool
suits_interface major flags =
    if major == 52 then (is_public flags || is_private flags) && not (is_protected flags) && not (is_final flags) && not (is_synchronized flags) && not (is_native flags)
    else is_public flags && is_abstract flags

-- The flags of a method that isn't <clinit>.
unfoldable pub are_method_flags : ℕ → Bool → ℕ → Bool
are_method_flags major in_interface flags =
    has_one_access flags && suits_abstract flags && (not in_interface || suits_interface major flags)

-- <init> is none of static, final, synchronized, native and abstract (4.6).
abbrev pub are_init_flags : ℕ → Bool
are_init_flags flags = not (is_static flags) && not (is_final flags) && not (is_synchronized flags) && not (is_native flags) && not (is_abstract flags)
