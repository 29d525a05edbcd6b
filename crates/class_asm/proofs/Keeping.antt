-- Every line leaves a pool that keeps: it only grew, and is built as it should be.
use Rattle.std.proofs.Common.{◌≡◌, ℕ, Bool, true, false, Option, Some, None, List, refl, subst}
use Rattle.jsa_base.specs.Reading.{◌>>=◌, when}
use Rattle.jsa_base.proofs.Codecs.{some_is}
use Rattle.class_tree.specs.declared.constant_pool.PoolEntry.{PoolEntry}
use Rattle.asm_text.specs.declared.statement.Constant.{Constant}
use Rattle.asm_text.specs.declared.statement.Constant.TheVariants as constant
use Rattle.asm_text.specs.declared.statement.MemberKind.{MemberKind}
use Rattle.asm_text.specs.declared.statement.MemberKind.TheVariants.{Field, Method, InterfaceMethod}
use Rattle.asm_text.specs.declared.statement.MemberName.{MemberName}
use Rattle.pool_builder.specs.Needs.{utf8_needed, class_needed}
use Rattle.pool_builder.specs.Laws.{Keeps, Builds}
use Rattle.pool_builder.proofs.Keeping.{keeps_then, pools_are_built}
use Rattle.class_asm.specs.Needs.{constant_needed, member_needed}
use Rattle.class_asm.specs.Laws.{NeedsAreBuilt}

-- ---- the constants and the members of lines

constant_builds : (k : Constant) → Builds (constant_needed k)
unfolding constant_needed
constant_builds (constant.Integer n) before after index h = pools_are_built.integer n before after index h
constant_builds (constant.Long n) before after index h = pools_are_built.long n before after index h
constant_builds (constant.Text text) before after index h = pools_are_built.string text before after index h
constant_builds (constant.Class name) before after index h = pools_are_built.class name before after index h

member_builds : (kind : MemberKind) (m : MemberName) → Builds (member_needed kind m)
unfolding member_needed
member_builds Field m before after index h = pools_are_built.field m.class m.name m.desc before after index h
member_builds Method m before after index h = pools_are_built.method m.class m.name m.desc before after index h
member_builds InterfaceMethod m before after index h = pools_are_built.interface_method m.class m.name m.desc before after index h

pub needs_are_built : NeedsAreBuilt
needs_are_built = record { constant = constant_builds; member = member_builds }

-- ---- what a definition in steps has

-- each value that it has is so
abbrev pub AllIn : {X : Type 0} → Option X → (X → Type 0) → Type 0
AllIn {X} o P = (y : X) → o ≡ Some y → P y

pub bind_all : {X Y : Type 0} (o : Option X) (f : X → Option Y) (Q : X → Type 0) (P : Y → Type 0) → AllIn o Q → ((x : X) → Q x → AllIn (f x) P) → AllIn (o >>= f) P
bind_all (Some x) f Q P q p y e = p x (q x refl) y e
bind_all None f Q P q p y e = absurd cc

pub when_all : {Y : Type 0} (b : Bool) (o : Option Y) (P : Y → Type 0) → AllIn o P → AllIn (when b >>= λ ok. o) P
when_all true o P p y e = p y e
when_all false o P p y e = absurd cc

pub some_all : {X : Type 0} (x : X) (P : X → Type 0) → P x → AllIn (Some x) P
some_all x P p y e = subst P (some_is x y e) p

-- A pool comes with each value, and keeps.
abbrev pub KeepsIn : {A : Type 0} → List PoolEntry → Option (A × List PoolEntry) → Type 0
KeepsIn before o = AllIn o (λ x. Keeps before x.1)

pub from : {A : Type 0} (a b : List PoolEntry) (o : Option (A × List PoolEntry)) → Keeps a b → KeepsIn b o → KeepsIn a o
from a b o k p y e = keeps_then a b y.1 k (p y e)

pub utf8_keeps : (text : List ℕ) (pool : List PoolEntry) → KeepsIn pool (utf8_needed text pool)
utf8_keeps text before x h = pools_are_built.utf8 text before x.1 x.0 h

pub class_keeps : (name : List ℕ) (pool : List PoolEntry) → KeepsIn pool (class_needed name pool)
class_keeps name before x h = pools_are_built.class name before x.1 x.0 h

pub constant_keeps : (k : Constant) (pool : List PoolEntry) → KeepsIn pool (constant_needed k pool)
constant_keeps k before x h = constant_builds k before x.1 x.0 h

pub member_keeps : (kind : MemberKind) (m : MemberName) (pool : List PoolEntry) → KeepsIn pool (member_needed kind m pool)
member_keeps kind m before x h = member_builds kind m before x.1 x.0 h
