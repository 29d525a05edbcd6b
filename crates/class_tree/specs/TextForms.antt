-- What the code keeps of each text, so that it tests it once.
use Rattle.std.specs.Prelude.{Option, Some, is_some, List, map}
use Rattle.jsa_names.specs.Names.{is_class_name, is_member_name, is_method_name}
use Rattle.class_tree.specs.declared.constant_pool.PoolEntry.{PoolEntry}
use Rattle.class_tree.specs.declared.tested_pool.TextForms.{TextForms}
use Rattle.class_tree.specs.Links.{text_in, holds, is_class_or_array, is_field_type, is_method_type, is_init, returns_void}
use Rattle.class_tree.specs.WellFormed.{is_declared_name, parameter_slots}

abbrev pub forms_in : Option PoolEntry → TextForms
forms_in e = record {
  is_text = is_some (text_in e);
  is_class_name = holds (text_in e) is_class_name;
  is_class_or_array = holds (text_in e) is_class_or_array;
  is_member_name = holds (text_in e) is_member_name;
  is_field_type = holds (text_in e) is_field_type;
  is_method_name = holds (text_in e) is_method_name;
  is_method_type = holds (text_in e) is_method_type;
  is_init = holds (text_in e) is_init;
  is_declared_name = holds (text_in e) is_declared_name;
  returns_void = holds (text_in e) returns_void;
  parameter_slots = parameter_slots (text_in e);
}

abbrev pub forms_of : PoolEntry → TextForms
forms_of e = forms_in (Some e)

unfoldable pub all_forms : List PoolEntry → List TextForms
all_forms pool = map forms_of pool
