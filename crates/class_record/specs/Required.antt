-- The classes that every run begins with, and what is asked of each of them.
use Rattle.std.specs.Prelude.{ℕ, List, [], ◌∷◌, ◌++◌, Bool, true, false, ◌&&◌, not, Option, Some, None, codes}
use Rattle.std.specs.Bool.{beq}
use Rattle.std.specs.List.{list_any}
use Rattle.std.specs.Str.{bytes_eq}
use Rattle.class_tree.specs.Flags as access
use Rattle.class_record.specs.declared.record.FieldRecord.{FieldRecord}
use Rattle.class_record.specs.declared.record.MethodRecord.{MethodRecord}
use Rattle.class_record.specs.Files.{Name}
use Rattle.class_record.specs.Facts.{Facts}

-- ---- the table

-- an instance field (JVMS 4.5) that a class has to declare
pub record Wanted : Type 0 where
  pub name : List ℕ
  pub desc : List ℕ

-- what is asked of a class: its superclass, its direct superinterfaces, whether it is an interface (4.1), and its field
pub record Required : Type 0 where
  pub name : Name
  pub sup : Option Name
  pub interfaces : List Name
  pub is_interface : Bool
  pub field : Option Wanted

-- the name of a class of the package java.lang (4.2.1)
abbrev pub lang : List ℕ → Name
lang name = codes "java/lang/" ++ name

abbrev pub object : Name
object = lang (codes "Object")

abbrev pub serializable : Name
serializable = codes "java/io/Serializable"

abbrev pub interface_named : Name → Required
interface_named name = record { name = name; sup = Some object; interfaces = []; is_interface = true; field = None }

-- a class of java.lang and its superclass there
abbrev pub extends : List ℕ → List ℕ → Required
extends name sup = record { name = lang name; sup = Some (lang sup); interfaces = []; is_interface = false; field = None }

abbrev pub object_class : Required
object_class = record { name = object; sup = None; interfaces = []; is_interface = false; field = None }

abbrev pub string_class : Required
string_class = record {
  name = lang (codes "String");
  sup = Some object;
  interfaces = serializable ∷ lang (codes "Comparable") ∷ lang (codes "CharSequence") ∷ [];
  is_interface = false;
  field = Some (record { name = codes "value"; desc = codes "[C" });
}

abbrev pub throwable_class : Required
throwable_class = record {
  name = lang (codes "Throwable");
  sup = Some object;
  interfaces = serializable ∷ [];
  is_interface = false;
  field = Some (record { name = codes "cause"; desc = codes "Ljava/lang/Throwable;" });
}

-- The classes in the order in which a run loads them.
abbrev pub required : List Required
required =
    object_class
    ∷ interface_named serializable
    ∷ interface_named (lang (codes "Cloneable"))
    ∷ interface_named (lang (codes "Comparable"))
    ∷ interface_named (lang (codes "CharSequence"))
    ∷ string_class
    ∷ extends (codes "Class") (codes "Object")
    ∷ throwable_class
    ∷ extends (codes "Error") (codes "Throwable")
    ∷ extends (codes "Exception") (codes "Throwable")
    ∷ extends (codes "RuntimeException") (codes "Exception")
    ∷ extends (codes "LinkageError") (codes "Error")
    ∷ extends (codes "NoClassDefFoundError") (codes "LinkageError")
    ∷ extends (codes "ClassFormatError") (codes "LinkageError")
    ∷ extends (codes "UnsupportedClassVersionError") (codes "ClassFormatError")
    ∷ extends (codes "ClassCircularityError") (codes "LinkageError")
    ∷ extends (codes "IncompatibleClassChangeError") (codes "LinkageError")
    ∷ extends (codes "AbstractMethodError") (codes "IncompatibleClassChangeError")
    ∷ extends (codes "IllegalAccessError") (codes "IncompatibleClassChangeError")
    ∷ extends (codes "InstantiationError") (codes "IncompatibleClassChangeError")
    ∷ extends (codes "NoSuchFieldError") (codes "IncompatibleClassChangeError")
    ∷ extends (codes "NoSuchMethodError") (codes "IncompatibleClassChangeError")
    ∷ extends (codes "UnsatisfiedLinkError") (codes "LinkageError")
    ∷ extends (codes "VerifyError") (codes "LinkageError")
    ∷ extends (codes "ExceptionInInitializerError") (codes "LinkageError")
    ∷ extends (codes "VirtualMachineError") (codes "Error")
    ∷ extends (codes "OutOfMemoryError") (codes "VirtualMachineError")
    ∷ extends (codes "StackOverflowError") (codes "VirtualMachineError")
    ∷ extends (codes "ArithmeticException") (codes "RuntimeException")
    ∷ extends (codes "IndexOutOfBoundsException") (codes "RuntimeException")
    ∷ extends (codes "ArrayIndexOutOfBoundsException") (codes "IndexOutOfBoundsException")
    ∷ extends (codes "StringIndexOutOfBoundsException") (codes "IndexOutOfBoundsException")
    ∷ extends (codes "ArrayStoreException") (codes "RuntimeException")
    ∷ extends (codes "ClassCastException") (codes "RuntimeException")
    ∷ extends (codes "NegativeArraySizeException") (codes "RuntimeException")
    ∷ extends (codes "NullPointerException") (codes "RuntimeException")
    ∷ extends (codes "IllegalMonitorStateException") (codes "RuntimeException")
    ∷ extends (codes "CloneNotSupportedException") (codes "Exception")
    ∷ []

-- ---- what is asked

abbrev pub is_same_sup : Option Name → Option Name → Bool
is_same_sup None None = true
is_same_sup None (Some b) = false
is_same_sup (Some a) None = false
is_same_sup (Some a) (Some b) = bytes_eq a b

abbrev pub are_same : List Name → List Name → Bool
are_same [] [] = true
are_same [] (b ∷ bs) = false
are_same (a ∷ others) [] = false
are_same (a ∷ others) (b ∷ bs) = bytes_eq a b && are_same others bs

-- a class's initialisation method (2.9)
abbrev pub is_initializer : MethodRecord → Bool
is_initializer m = bytes_eq m.name (codes "<clinit>")

abbrev pub is_wanted : Wanted → FieldRecord → Bool
is_wanted w f = bytes_eq f.name w.name && bytes_eq f.desc w.desc && not (access.is_static f.flags)

abbrev pub has_field : Option Wanted → List FieldRecord → Bool
has_field None fields = true
has_field (Some w) fields = list_any (is_wanted w) fields

-- The superclass, the list of direct superinterfaces and the flag ACC_INTERFACE (4.1) are those that are asked for, there is
-- no initialisation method, and the field is there.
abbrev pub meets : Required → Facts → Bool
meets r f =
    is_same_sup f.sup r.sup
    && are_same f.interfaces r.interfaces
    && beq (access.is_interface f.flags) r.is_interface
    && not (list_any is_initializer f.methods)
    && has_field r.field f.fields
