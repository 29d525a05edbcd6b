-- How a class file is written (JVMS 4.1, 4.5 to 4.7): its parts one after the other, all attributes among them.
use Rattle.std.specs.Prelude.{ℕ, List, ◌++◌}
use Rattle.jsa_base.specs.Spelling.{u2, u4, long_text, counted, Fits2, FitsLongText, FitsCounted}
use Rattle.class_tree.specs.declared.constant_pool.PoolEntry.{PoolEntry}
use Rattle.class_tree.specs.declared.tree.Handler.{Handler}
use Rattle.class_tree.specs.Entries.{pool_text, FitsPool}

-- an attribute: the index of its name, and the bytes behind its length (4.7)
pub record Attribute : Type 0 where
  pub name : ℕ
  pub content : List ℕ

-- a field or a method (4.5, 4.6)
pub record Member : Type 0 where
  pub flags : ℕ
  pub name : ℕ
  pub desc : ℕ
  pub attributes : List Attribute

-- what stands behind the version (4.1)
pub record ClassParts : Type 0 where
  pub pool : List PoolEntry
  pub flags : ℕ
  pub this : ℕ
  pub sup : ℕ
  pub interfaces : List ℕ
  pub fields : List Member
  pub methods : List Member
  pub attributes : List Attribute

-- the content of a Code attribute (4.7.3)
pub record CodeParts : Type 0 where
  pub stack : ℕ
  pub locals : ℕ
  pub bytes : List ℕ
  pub handlers : List Handler
  pub attributes : List Attribute

-- ---- how they are written

abbrev pub attribute : Attribute → List ℕ
attribute a = u2 a.name ++ long_text a.content

abbrev pub member : Member → List ℕ
member m = u2 m.flags ++ (u2 m.name ++ (u2 m.desc ++ counted attribute m.attributes))

abbrev pub handler : Handler → List ℕ
handler h = u2 h.start ++ (u2 h.end ++ (u2 h.handler ++ u2 h.catch))

abbrev pub code_text : CodeParts → List ℕ
code_text c = u2 c.stack ++ (u2 c.locals ++ (long_text c.bytes ++ (counted handler c.handlers ++ counted attribute c.attributes)))

abbrev pub parts_text : ClassParts → List ℕ
parts_text p =
    pool_text p.pool ++ (u2 p.flags ++ (u2 p.this ++ (u2 p.sup
    ++ (counted u2 p.interfaces ++ (counted member p.fields ++ (counted member p.methods ++ counted attribute p.attributes))))))

-- the magic number, and the version behind it
abbrev pub version_text : ℕ → ℕ → List ℕ
version_text minor major = u4 0xCAFEBABE ++ (u2 minor ++ u2 major)

abbrev pub class_text : ℕ → ℕ → ClassParts → List ℕ
class_text minor major p = version_text minor major ++ parts_text p

-- ---- which numbers and lists fit

pub record FitsAttribute (a : Attribute) : Type 0 where
  pub name : Fits2 a.name
  pub content : FitsLongText a.content

pub record FitsMember (m : Member) : Type 0 where
  pub flags : Fits2 m.flags
  pub name : Fits2 m.name
  pub desc : Fits2 m.desc
  pub attributes : FitsCounted FitsAttribute m.attributes

pub record FitsHandler (h : Handler) : Type 0 where
  pub start : Fits2 h.start
  pub end : Fits2 h.end
  pub handler : Fits2 h.handler
  pub catch : Fits2 h.catch

pub record FitsCode (c : CodeParts) : Type 0 where
  pub stack : Fits2 c.stack
  pub locals : Fits2 c.locals
  pub bytes : FitsLongText c.bytes
  pub handlers : FitsCounted FitsHandler c.handlers
  pub attributes : FitsCounted FitsAttribute c.attributes

pub record FitsParts (p : ClassParts) : Type 0 where
  pub pool : FitsPool p.pool
  pub flags : Fits2 p.flags
  pub this : Fits2 p.this
  pub sup : Fits2 p.sup
  pub interfaces : FitsCounted Fits2 p.interfaces
  pub fields : FitsCounted FitsMember p.fields
  pub methods : FitsCounted FitsMember p.methods
  pub attributes : FitsCounted FitsAttribute p.attributes
