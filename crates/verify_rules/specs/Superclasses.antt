-- What verification looks at in a superclass (JVM Specification SE 8, 4.10.1.1): no more than its name, the loader that defines
-- it, its access flags and the members that it declares.
use Rattle.std.specs.Prelude.{ℕ, List}
use Rattle.loader_rules.specs.declared.loader.Loader.{Loader}

-- a field or a method that a class declares (4.5, 4.6)
pub record Member : Type 0 where
  pub name : List ℕ
  pub desc : List ℕ
  pub flags : ℕ

pub record Superclass : Type 0 where
  pub name : List ℕ
  pub loader : Loader
  pub flags : ℕ
  pub fields : List Member
  pub methods : List Member
