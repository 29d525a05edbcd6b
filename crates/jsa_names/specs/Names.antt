-- Names of classes, fields and methods, as bytes (JVMS 4.2).
use Rattle.std.specs.Prelude.{ℕ, List, length, Bool, ◌&&◌, ◌||◌, not, ◌==◌, codes}
use Rattle.std.specs.List.{list_all, slice_split}
use Rattle.std.specs.Str.{bytes_eq}

-- none of '.', ';' and '['
abbrev pub is_plain : ℕ → Bool
is_plain b = not (b == 46) && not (b == 59) && not (b == 91)

abbrev pub is_segment : List ℕ → Bool
is_segment text = not (length text == 0) && list_all is_plain text

-- segments between slashes, none of them empty and none with '.', ';' or '[' (4.2.1)
unfoldable pub is_class_name : List ℕ → Bool
is_class_name text = list_all is_segment (slice_split (λ b. b == 47) text)

-- none of '.', ';', '[' and '/'
abbrev pub is_member_byte : ℕ → Bool
is_member_byte b = is_plain b && not (b == 47)

-- an unqualified name: not empty, none of '.', ';', '[' and '/' (4.2.2)
abbrev pub is_member_name : List ℕ → Bool
is_member_name text = not (length text == 0) && list_all is_member_byte text

-- none of '.', ';', '[', '/', '<' and '>'
unfoldable pub is_method_byte : ℕ → Bool
is_method_byte b = is_member_byte b && not (b == 60) && not (b == 62)

-- an unqualified name without '<' and '>', or <init> (4.2.2)
abbrev pub is_method_name : List ℕ → Bool
is_method_name text = bytes_eq text (codes "<init>") || (not (length text == 0) && list_all is_method_byte text)
