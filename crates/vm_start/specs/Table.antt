-- The required classes as the code has them.
use Rattle.std.specs.Prelude.{ℕ, zero, suc, [], map, false, Option, Some, None, slice_get, codes}
use Rattle.class_record.specs.Files.{Name}
use Rattle.std.specs.Option.{option_map}
use Rattle.class_record.specs.Required.{Wanted, Required, required, lang}
use Rattle.vm_start.specs.declared.required.Above.{Above}
use Rattle.vm_start.specs.declared.required.Above.TheVariants.{Throwable, Exception, Error, LinkageError, ClassFormatError, IncompatibleClassChangeError, VirtualMachineError, RuntimeException, IndexOutOfBoundsException}
use Rattle.vm_start.specs.declared.required.Row.{Row}
use Rattle.vm_start.specs.declared.required.WantedField.{WantedField}

abbrev pub wanted_of : WantedField → Wanted
wanted_of f = record { name = f.name.now; desc = f.desc.now }

abbrev pub row_of : Row → Required
row_of r = record {
  name = r.name.now;
  sup = option_map (λ s. s.now) r.sup;
  interfaces = map (λ s. s.now) r.interfaces.now;
  is_interface = r.is_interface;
  field = option_map wanted_of r.field;
}

-- the superclasses of the classes from 9 on
abbrev pub above_name : Above → Name
above_name Throwable = lang (codes "Throwable")
above_name Exception = lang (codes "Exception")
above_name Error = lang (codes "Error")
above_name LinkageError = lang (codes "LinkageError")
above_name ClassFormatError = lang (codes "ClassFormatError")
above_name IncompatibleClassChangeError = lang (codes "IncompatibleClassChangeError")
above_name VirtualMachineError = lang (codes "VirtualMachineError")
above_name RuntimeException = lang (codes "RuntimeException")
above_name IndexOutOfBoundsException = lang (codes "IndexOutOfBoundsException")

-- a class of this name, with this superclass and no more asked of it
abbrev pub extending : Name → Name → Required
extending name sup = record { name = name; sup = Some sup; interfaces = []; is_interface = false; field = None }

-- the class with a number from 1 on
abbrev pub numbered : ℕ → Option Required
numbered zero = None
numbered (suc k) = slice_get required k
