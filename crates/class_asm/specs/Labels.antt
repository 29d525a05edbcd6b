-- The labels of a code, and their places: how many bytes of code stand before what follows the label.
use Rattle.std.specs.Prelude.{◌≡◌, ℕ, ℤ, pos, neg_ℤ, ◌+◌, ◌*◌, min, int_le, int_lt, List, [], ◌∷◌, ◌++◌, length, map, Bool, true, false, ◌&&◌, nat_lt, Option, Some, None, if◌then◌else◌}
use Rattle.std.specs.Global.{Vec}
use Rattle.std.specs.List.{list_any}
use Rattle.std.specs.Str.{bytes_eq}
use Rattle.jsa_ops.specs.Opcodes.{form_of}
use Rattle.jsa_ops.specs.Spelling.{padding}
use Rattle.jsa_ops.specs.declared.form.Form.{Form}
use Rattle.jsa_ops.specs.declared.form.Form.TheVariants as forms
use Rattle.asm_text.specs.declared.statement.Operation.{Operation}
use Rattle.asm_text.specs.declared.statement.Operation.TheVariants as operation
use Rattle.asm_text.specs.declared.statement.Statement.{Statement}
use Rattle.asm_text.specs.declared.statement.Statement.TheVariants as statement

pub record Label : Type 0 where
  pub name : List ℕ
  pub place : ℕ

-- the labels that a map from names to places holds, in its order
abbrev pub label_of : Vec ℕ × ℕ → Label
label_of e = record { name = e.0.items; place = e.1 }

abbrev pub labels_in : List (Vec ℕ × ℕ) → List Label
labels_in entries = map label_of entries

abbrev pub is_named : List ℕ → Label → Bool
is_named name l = bytes_eq name l.name

-- the place of a label, where it has one
unfoldable pub place_of : List Label → List ℕ → Option ℕ
place_of [] name = None
place_of (l ∷ labels) name = if is_named name l then Some l.place else place_of labels name

-- a label behind the others, unless one of them has its name
unfoldable pub with_label : List Label → List ℕ → ℕ → List Label
with_label labels name place = if list_any (is_named name) labels then labels else labels ++ record { name = name; place = place } ∷ []

-- ---- how many bytes an operation takes (JVMS 6.5)

abbrev pub is_near_form : Option Form → Bool
is_near_form (Some forms.NearConstant) = true
is_near_form _ = false

abbrev pub is_far_form : Option Form → Bool
is_far_form (Some forms.FarBranch) = true
is_far_form _ = false

-- ldc has an index of one byte
abbrev pub is_near : ℕ → Bool
is_near op = is_near_form (form_of op)

-- goto_w and jsr_w have a distance of four bytes
abbrev pub is_far : ℕ → Bool
is_far op = is_far_form (form_of op)

abbrev pub fits_byte : ℤ → Bool
fits_byte n = int_le (neg_ℤ (pos 0x80)) n && int_lt n (pos 0x80)

-- How many bytes an operation takes at a place: with wide, where its numbers need that, and with the padding of a switch.
unfoldable pub size : ℕ → Operation → ℕ
size place (operation.Plain op) = 1
size place (operation.Byte op n) = 2
size place (operation.Short op n) = 3
size place (operation.Load op k) = if is_near op then 2 else 3
size place (operation.Local op n) = if nat_lt n 256 then 2 else 4
size place (operation.Iinc op n by) = if nat_lt n 256 && fits_byte by then 3 else 6
size place (operation.Branch op label) = if is_far op then 5 else 3
size place (operation.Member op kind m) = 3
size place (operation.Interface op m slots) = 5
size place (operation.ClassOf op name) = 3
size place (operation.NewArray op code) = 2
size place (operation.MultiArray op name dimensions) = 4
size place (operation.TableSwitch op low other labels) = 13 + padding place + 4 * length labels
size place (operation.LookupSwitch op other cases) = 9 + padding place + 8 * length cases

-- ---- the labels of the lines that follow

-- A place is counted up to 2^32 - 1, which no code reaches.
abbrev pub behind : ℕ → ℕ → ℕ
behind place n = min (place + n) 0xFFFF_FFFF

-- The labels and the place behind a line of code. None where a line is no line of code.
abbrev pub labels_after : List Label × ℕ → Option Statement → Option (List Label × ℕ)
labels_after s (Some (statement.Label name)) = Some (with_label s.0 name s.1, s.1)
labels_after s (Some (statement.Operation o)) = Some (s.0, behind s.1 (size s.1 o))
labels_after s (Some (statement.Catch line)) = Some s
labels_after s (Some (statement.Frame line)) = Some s
labels_after s (Some statement.Blank) = Some s
labels_after s (Some (statement.Class line)) = None
labels_after s (Some (statement.Version n)) = None
labels_after s (Some (statement.Field line)) = None
labels_after s (Some (statement.Method line)) = None
labels_after s (Some (statement.Code line)) = None
labels_after s (Some statement.End) = None
labels_after s None = None

-- what a call leaves and gives that adds the label of a line
abbrev pub Passes : List Label → List Label → Option ℕ → Option (List Label × ℕ) → Type 0
Passes old new (Some next) after = after ≡ Some (new, next)
Passes old new None after = (after ≡ None) × (new ≡ old)

abbrev pub labels_or : List Label → Option (List Label × ℕ) → (List Label × ℕ → List Label) → List Label
labels_or labels None later = labels
labels_or labels (Some s) later = later s

-- The labels so far, and those of the lines of code that begin here, up to the first line that is none: each once, with
-- the place at which it stands first.
unfoldable pub labels_of : List Label × ℕ → List (Option Statement) → List Label
labels_of s [] = s.0
labels_of s (line ∷ lines) = labels_or s.0 (labels_after s line) (λ next. labels_of next lines)
