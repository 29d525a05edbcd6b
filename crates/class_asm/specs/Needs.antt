-- What the constants and the members of lines need of a constant pool (JVMS 4.4).
use Rattle.asm_text.specs.declared.statement.Constant.{Constant}
use Rattle.asm_text.specs.declared.statement.Constant.TheVariants as constant
use Rattle.asm_text.specs.declared.statement.MemberKind.{MemberKind}
use Rattle.asm_text.specs.declared.statement.MemberKind.TheVariants.{Field, Method, InterfaceMethod}
use Rattle.asm_text.specs.declared.statement.MemberName.{MemberName}
use Rattle.pool_builder.specs.Needs.{Need, integer_needed, long_needed, string_needed, class_needed, field_needed, method_needed, interface_method_needed}

unfoldable pub constant_needed : Constant → Need
constant_needed (constant.Integer n) pool = integer_needed n pool
constant_needed (constant.Long n) pool = long_needed n pool
constant_needed (constant.Text string) pool = string_needed string pool
constant_needed (constant.Class name) pool = class_needed name pool

unfoldable pub member_needed : MemberKind → MemberName → Need
member_needed Field m pool = field_needed m.class m.name m.desc pool
member_needed Method m pool = method_needed m.class m.name m.desc pool
member_needed InterfaceMethod m pool = interface_method_needed m.class m.name m.desc pool
