-- What is known of a loaded class by names (JVMS 4.1, 4.4 to 4.7), and what the facts that are told of it show.
use Rattle.std.specs.Prelude.{ℕ, List, [], map, Option, Some, None, slice_get}
use Rattle.class_tree.specs.declared.tree.Handler.{Handler}
use Rattle.loader_rules.specs.declared.loader.Loader.{Loader}
use Rattle.class_record.specs.declared.record.PoolName.{PoolName}
use Rattle.class_record.specs.declared.record.PoolName.TheVariants as names
use Rattle.class_record.specs.declared.record.FieldRecord.{FieldRecord}
use Rattle.class_record.specs.declared.record.MethodRecord.{MethodRecord}
use Rattle.class_record.specs.declared.record.CodeRecord.{CodeRecord}
use Rattle.class_record.specs.declared.facts.FieldFact.{FieldFact}
use Rattle.class_record.specs.declared.facts.MethodFact.{MethodFact}
use Rattle.class_record.specs.declared.facts.PoolFact.{PoolFact}
use Rattle.class_record.specs.declared.facts.PoolFact.TheVariants as facts
use Rattle.class_record.specs.Files.{Name}

-- The record of a class (4.1) as far as it is known once the class is loaded (5.3): its tables and its questions come with
-- linking (5.4).
pub record Facts : Type 0 where
  pub name : Name
  pub flags : ℕ
  pub loader : Loader
  pub folder : ℕ
  pub major : ℕ
  pub sup : Option Name
  pub interfaces : List Name
  pub pool : List PoolName
  pub fields : List FieldRecord
  pub methods : List MethodRecord
  pub instance_size : ℕ
  pub static_size : ℕ

abbrev pub name_of : Facts → Name
name_of f = f.name

abbrev pub names_of : List Facts → List Name
names_of fs = map name_of fs

-- ---- the facts of the class with a number, of classes in load order

abbrev pub with_class : {A : Type 0} → A → (Facts → A) → Option Facts → A
with_class none part None = none
with_class none part (Some f) = part f

abbrev pub sup_at : List Facts → ℕ → Option Name
sup_at fs id = with_class None (λ f. f.sup) (slice_get fs id)

abbrev pub interfaces_at : List Facts → ℕ → List Name
interfaces_at fs id = with_class [] (λ f. f.interfaces) (slice_get fs id)

abbrev pub pool_of : List Facts → ℕ → List PoolName
pool_of fs id = with_class [] (λ f. f.pool) (slice_get fs id)

abbrev pub entry_or_unusable : Option PoolName → PoolName
entry_or_unusable None = names.Unusable
entry_or_unusable (Some entry) = entry

-- Past the pool's end (4.4) stands nothing.
abbrev pub pool_at : List Facts → ℕ → ℕ → PoolName
pool_at fs id k = entry_or_unusable (slice_get (pool_of fs id) k)

abbrev pub field_at : List Facts → ℕ → ℕ → Option FieldRecord
field_at fs id k = slice_get (with_class [] (λ f. f.fields) (slice_get fs id)) k

abbrev pub method_at : List Facts → ℕ → ℕ → Option MethodRecord
method_at fs id k = slice_get (with_class [] (λ f. f.methods) (slice_get fs id)) k

-- the rows of the exception table, of a method that has code (4.7.3)
abbrev pub handlers_of : Option CodeRecord → List Handler
handlers_of None = []
handlers_of (Some c) = c.handlers

abbrev pub handlers_in : Option MethodRecord → List Handler
handlers_in None = []
handlers_in (Some m) = handlers_of m.code

abbrev pub handler_at : List Facts → ℕ → ℕ → ℕ → Option Handler
handler_at fs id m k = slice_get (handlers_in (method_at fs id m)) k

-- ---- what is told of a field (4.5), a method (4.6), an entry of the pool (4.4)

abbrev pub field_shown : FieldFact → FieldRecord
field_shown f = record { name = f.name.now; desc = f.desc.now; flags = f.flags; slot = f.slot; value = f.value }

-- a method (4.6) with its code (4.7.3), without the rows of its exception table
pub record MethodShown : Type 0 where
  pub name : List ℕ
  pub desc : List ℕ
  pub flags : ℕ
  pub stack : ℕ
  pub locals : ℕ
  pub code : List ℕ

abbrev pub method_shown : MethodFact → MethodShown
method_shown m = record { name = m.name.now; desc = m.desc.now; flags = m.flags; stack = m.stack; locals = m.locals; code = m.code.now }

abbrev pub stack_of : Option CodeRecord → ℕ
stack_of None = 0
stack_of (Some c) = c.stack

abbrev pub locals_of : Option CodeRecord → ℕ
locals_of None = 0
locals_of (Some c) = c.locals

abbrev pub code_of : Option CodeRecord → List ℕ
code_of None = []
code_of (Some c) = c.bytes

abbrev pub method_told : MethodRecord → MethodShown
method_told m = record { name = m.name; desc = m.desc; flags = m.flags; stack = stack_of m.code; locals = locals_of m.code; code = code_of m.code }

abbrev pub pool_shown : PoolFact → PoolName
pool_shown facts.Unusable = names.Unusable
pool_shown (facts.Utf8 text) = names.Utf8 text.now
pool_shown (facts.Integer bits) = names.Integer bits
pool_shown (facts.Float bits) = names.Float bits
pool_shown (facts.Long bits) = names.Long bits
pool_shown (facts.Double bits) = names.Double bits
pool_shown (facts.Class name) = names.Class name.now
pool_shown (facts.Str text) = names.Str text.now
pool_shown (facts.Fieldref class member) = names.Fieldref class member
pool_shown (facts.Methodref class member) = names.Methodref class member
pool_shown (facts.InterfaceMethodref class member) = names.InterfaceMethodref class member
pool_shown (facts.NameAndType name desc) = names.NameAndType name.now desc.now
pool_shown (facts.MethodHandle kind member) = names.MethodHandle kind member
pool_shown (facts.MethodType desc) = names.MethodType desc.now
pool_shown (facts.InvokeDynamic bootstrap member) = names.InvokeDynamic bootstrap member

abbrev pub name_at : List Facts → ℕ → Name
name_at fs id = with_class [] (λ f. f.name) (slice_get fs id)
