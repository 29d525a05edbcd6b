-- Each class of a text has a name that has a path.
use Rattle.std.proofs.Common.{◌≡◌, ℕ, zero, suc, ◌+◌, Bool, true, false, cond, Option, Some, None, is_some, List, [], ◌∷◌, ◌++◌, map, length, take, drop, position, slice_get, refl, sym, ap, subst, ◌∙◌}
use Rattle.std.specs.Prelude.{nat_lt, ◌&&◌, ◌||◌, codes, ⊤, IsTrue}
use Rattle.std.specs.List.{AllByRecursion, list_all}
use Rattle.std.specs.Str.{bytes_eq}
use Rattle.jsa_base.specs.Reading.{◌>>=◌}
use Rattle.jsa_names.specs.Paths.{text_of, path_of}
use Rattle.class_tree.specs.declared.constant_pool.PoolEntry.{PoolEntry}
use Rattle.class_tree.specs.declared.constant_pool.PoolEntry.TheVariants as entries
use Rattle.class_tree.specs.Links.{text_in}
use Rattle.class_tree.specs.Trees.{each}
use Rattle.class_tree.specs.WellFormed.{class_name, class_name_in}
use Rattle.asm_text.specs.declared.statement.ClassLine.{ClassLine}
use Rattle.asm_text.specs.declared.statement.Statement.{Statement}
use Rattle.asm_text.specs.declared.statement.Statement.TheVariants as statement
use Rattle.asm_text.specs.Quoted.{modified}
use Rattle.asm_text.specs.Lines.{lines, tokens}
use Rattle.asm_text.specs.Numbers.{flags, natural}
use Rattle.asm_text.specs.Words.{is_word, is_path_word, is_class_word}
use Rattle.asm_text.specs.Operations.{operation_of}
use Rattle.asm_text.specs.Grammar.{is_dash, is_bar, type_of, class_line, version_line, field_line, method_line, code_line, catch_line, frame_line, end_line, is_comment, label_of, label_or_operation, statement_of, line_statement, statements, optional_value}
use Rattle.pool_builder.specs.Needs.{needed, utf8_needed, class_needed}
use Rattle.pool_builder.specs.Laws.{Grown}
use Rattle.class_asm.specs.declared.class_draft.ClassDraft.{ClassDraft}
use Rattle.class_asm.specs.declared.place.Place.TheVariants as place
use Rattle.class_asm.specs.Assembly.{assembled}
use Rattle.class_asm.specs.Laws.{HasPath, ClassesHavePaths}
use Rattle.class_asm.proofs.Keeping.{AllIn, bind_all, when_all, some_all}
use Rattle.class_asm.proofs.Formed.{map_all, any, tested_all, parts}
use Rattle.class_asm.proofs.BuiltTrees.{Lasts, BeginsSo, LineBeginsSo, begun_all, run_all, first_pool}

-- ---- what a class line names

abbrev HasName : ClassLine → Type 0
HasName line = IsTrue (is_path_word line.name)

abbrev NamesPath : Statement → Type 0
NamesPath = BeginsSo HasName

class_names : (words : List (List ℕ)) → AllIn (class_line words) NamesPath
unfolding class_line
class_names [] = λ y e. absurd cc
class_names (bits ∷ []) = λ y e. absurd cc
class_names (bits ∷ name ∷ []) = λ y e. absurd cc
class_names (bits ∷ name ∷ sup ∷ interfaces) =
    let is_super = is_dash sup || is_class_word sup in
    bind_all (flags bits) _ (λ b. ⊤) NamesPath (any _)
    (λ b t. tested_all (is_path_word name && is_super && list_all is_class_word interfaces) _ NamesPath
    (λ h. some_all _ NamesPath (parts (is_path_word name) is_super (parts (is_path_word name && is_super) (list_all is_class_word interfaces) h).0).0))

-- ---- lines that begin no class

version_names : (words : List (List ℕ)) → AllIn (version_line words) NamesPath
unfolding version_line
version_names [] = λ y e. absurd cc
version_names (n ∷ []) = map_all statement.Version (natural 65535 n) (λ k. ⊤) NamesPath (any _) (λ k t. tt)
version_names (n ∷ more ∷ rest) = λ y e. absurd cc

field_names : (words : List (List ℕ)) → AllIn (field_line words) NamesPath
unfolding field_line
field_names [] = λ y e. absurd cc
field_names (bits ∷ []) = λ y e. absurd cc
field_names (bits ∷ name ∷ []) = λ y e. absurd cc
field_names (bits ∷ name ∷ desc ∷ rest) =
    bind_all (flags bits) _ (λ b. ⊤) NamesPath (any _)
    (λ b t. when_all _ _ NamesPath (bind_all (optional_value b desc rest) _ (λ v. ⊤) NamesPath (any _) (λ v u. some_all _ NamesPath tt)))

method_names : (words : List (List ℕ)) → AllIn (method_line words) NamesPath
unfolding method_line
method_names [] = λ y e. absurd cc
method_names (bits ∷ []) = λ y e. absurd cc
method_names (bits ∷ name ∷ []) = λ y e. absurd cc
method_names (bits ∷ name ∷ desc ∷ []) = bind_all (flags bits) _ (λ b. ⊤) NamesPath (any _) (λ b t. when_all _ _ NamesPath (some_all _ NamesPath tt))
method_names (bits ∷ name ∷ desc ∷ more ∷ rest) = λ y e. absurd cc

code_names : (words : List (List ℕ)) → AllIn (code_line words) NamesPath
unfolding code_line
code_names [] = λ y e. absurd cc
code_names (stack ∷ []) = λ y e. absurd cc
code_names (stack ∷ locals ∷ []) =
    bind_all (natural 65535 stack) _ (λ s. ⊤) NamesPath (any _) (λ s t. bind_all (natural 65535 locals) _ (λ l. ⊤) NamesPath (any _) (λ l u. some_all _ NamesPath tt))
code_names (stack ∷ locals ∷ more ∷ rest) = λ y e. absurd cc

catch_names : (words : List (List ℕ)) → AllIn (catch_line words) NamesPath
unfolding catch_line
catch_names [] = λ y e. absurd cc
catch_names (a ∷ []) = λ y e. absurd cc
catch_names (a ∷ b ∷ []) = λ y e. absurd cc
catch_names (a ∷ b ∷ c ∷ []) = λ y e. absurd cc
catch_names (a ∷ b ∷ c ∷ d ∷ []) = when_all _ _ NamesPath (some_all _ NamesPath tt)
catch_names (a ∷ b ∷ c ∷ d ∷ more ∷ rest) = λ y e. absurd cc

frame_names : (words : List (List ℕ)) → AllIn (frame_line words) NamesPath
unfolding frame_line
frame_names [] = λ y e. absurd cc
frame_names (label ∷ types) =
    when_all (is_word label) _ NamesPath (bind_all (position is_bar types) _ (λ n. ⊤) NamesPath (any _)
    (λ bar t. bind_all (each type_of (take bar types)) _ (λ x. ⊤) NamesPath (any _)
    (λ locals u. bind_all (each type_of (drop (bar + 1) types)) _ (λ x. ⊤) NamesPath (any _)
    (λ stack v. some_all _ NamesPath tt))))

end_names : (words : List (List ℕ)) → AllIn (end_line words) NamesPath
end_names [] = some_all statement.End NamesPath tt
end_names (more ∷ rest) = λ y e. absurd cc

label_names : (label : Option (List ℕ)) (word : List ℕ) (rest : List (List ℕ)) → AllIn (label_or_operation label word rest) NamesPath
label_names (Some label) word [] = some_all (statement.Label label) NamesPath tt
label_names (Some label) word (more ∷ rest) = λ y e. absurd cc
label_names None word rest = map_all statement.Operation (operation_of word rest) (λ o. ⊤) NamesPath (any _) (λ o t. tt)

-- ---- all lines

either_names : (b : Bool) (x y : Option Statement) → AllIn x NamesPath → AllIn y NamesPath → AllIn (cond b x y) NamesPath
either_names true x y p q = p
either_names false x y p q = q

statement_names : (words : List (List ℕ)) → AllIn (statement_of words) NamesPath
unfolding statement_of
statement_names [] = some_all statement.Blank NamesPath tt
statement_names (word ∷ rest) =
    either_names (is_comment word) (Some statement.Blank) _ (some_all statement.Blank NamesPath tt)
    (either_names (bytes_eq word (codes "class")) (class_line rest) _ (class_names rest)
    (either_names (bytes_eq word (codes "version")) (version_line rest) _ (version_names rest)
    (either_names (bytes_eq word (codes "field")) (field_line rest) _ (field_names rest)
    (either_names (bytes_eq word (codes "method")) (method_line rest) _ (method_names rest)
    (either_names (bytes_eq word (codes "code")) (code_line rest) _ (code_names rest)
    (either_names (bytes_eq word (codes "end")) (end_line rest) _ (end_names rest)
    (either_names (bytes_eq word (codes "catch")) (catch_line rest) _ (catch_names rest)
    (either_names (bytes_eq word (codes "frame")) (frame_line rest) _ (frame_names rest)
    (label_names (label_of word) word rest)))))))))

named_by : (o : Option Statement) → AllIn o NamesPath → LineBeginsSo HasName o
named_by (Some s) h = h s refl
named_by None h = tt

line_names : (line : List ℕ) → AllIn (line_statement line) NamesPath
unfolding line_statement
line_names line = bind_all (modified line) (λ m. statement_of (tokens m)) (λ m. ⊤) NamesPath (any _) (λ m t. statement_names (tokens m))

lines_name : (ls : List (List ℕ)) → AllByRecursion (LineBeginsSo HasName) (map line_statement ls)
lines_name [] = tt
lines_name (line ∷ ls) = (named_by (line_statement line) (line_names line), lines_name ls)

-- ---- a name stays

get_front : (xs more : List PoolEntry) (i : ℕ) (x : PoolEntry) → slice_get xs i ≡ Some x → slice_get (xs ++ more) i ≡ Some x
get_front [] more i x e = absurd cc
get_front (y ∷ xs) more zero x e = e
get_front (y ∷ xs) more (suc i) x e = get_front xs more i x e

text_stays : (pool more : List PoolEntry) (i : ℕ) (text : List ℕ) (o : Option PoolEntry) → slice_get pool i ≡ o → text_in o ≡ Some text → text_in (slice_get (pool ++ more) i) ≡ Some text
text_stays pool more i text None is e = absurd cc
text_stays pool more i text (Some x) is e = ap text_in (get_front pool more i x is) ∙ e

entry_stays : (pool more : List PoolEntry) (name : List ℕ) (x : PoolEntry) → class_name_in pool (Some x) ≡ Some name → class_name_in (pool ++ more) (Some x) ≡ Some name
entry_stays pool more name (entries.Class i) e = text_stays pool more i name (slice_get pool i) refl e
entry_stays pool more name entries.Unusable e = absurd cc
entry_stays pool more name (entries.Utf8 text) e = absurd cc
entry_stays pool more name (entries.Integer n) e = absurd cc
entry_stays pool more name (entries.Float n) e = absurd cc
entry_stays pool more name (entries.Long n) e = absurd cc
entry_stays pool more name (entries.Double n) e = absurd cc
entry_stays pool more name (entries.Str i) e = absurd cc
entry_stays pool more name (entries.Fieldref i j) e = absurd cc
entry_stays pool more name (entries.Methodref i j) e = absurd cc
entry_stays pool more name (entries.InterfaceMethodref i j) e = absurd cc
entry_stays pool more name (entries.NameAndType i j) e = absurd cc
entry_stays pool more name (entries.MethodHandle k i) e = absurd cc
entry_stays pool more name (entries.MethodType i) e = absurd cc
entry_stays pool more name (entries.InvokeDynamic i j) e = absurd cc

name_by : (pool more : List PoolEntry) (i : ℕ) (name : List ℕ) (o : Option PoolEntry) → slice_get pool i ≡ o → class_name_in pool o ≡ Some name → class_name (pool ++ more) i ≡ Some name
name_by pool more i name None is e = absurd cc
name_by pool more i name (Some x) is e = ap (class_name_in (pool ++ more)) (get_front pool more i x is) ∙ entry_stays pool more name x e

name_stays : (before after : List PoolEntry) (i : ℕ) (name : List ℕ) → Grown before after → class_name before i ≡ Some name → class_name after i ≡ Some name
name_stays before after i name g e = ap (λ (p : List PoolEntry). class_name p i) g.is ∙ name_by before g.more i name (slice_get before i) refl e

-- ---- the name of the class at hand

abbrev HasNameAt : ClassDraft → Type 0
HasNameAt class = (name : List ℕ) × IsTrue (is_path_word name) × (class_name class.pool class.this ≡ Some name)

abbrev named_pool : List ℕ → List PoolEntry
named_pool name = entries.Unusable ∷ entries.Utf8 name ∷ entries.Class 1 ∷ []

class_named : (name : List ℕ) → AllIn (class_needed name first_pool) (λ x. class_name x.1 x.0 ≡ Some name)
unfolding class_needed utf8_needed needed
class_named name = of (nat_lt 65535 (length name)) where
  of : (long : Bool) → AllIn (cond long None (needed (entries.Utf8 name) first_pool) >>= λ x. needed (entries.Class x.0) x.1) (λ x. class_name x.1 x.0 ≡ Some name)
  of true = λ y e. absurd cc
  of false = some_all (2, named_pool name) (λ x. class_name x.1 x.0 ≡ Some name) refl

name_lasts : Lasts HasName HasNameAt
name_lasts = record {
  begin = λ line b. begun_all line (λ x. class_name x.1 x.0 ≡ Some line.name) HasNameAt (class_named line.name)
      (λ this class q is k. (line.name, b, ap (class_name class.pool) is ∙ name_stays this.1 class.pool this.0 line.name k.grown q));
  goes = λ before after g h. (h.0, h.1, ap (class_name after.pool) g.this ∙ name_stays before.pool after.pool before.this h.0 g.pool.grown h.2);
}

-- ---- the path of a name

path_by : (folder name : List ℕ) (o : Option (List ℕ)) → text_of name ≡ o → is_some o ≡ true → HasPath folder (Some name)
unfolding path_of
path_by folder name (Some text) is h = (folder ++ codes "/" ++ text ++ codes ".class", ap (λ (o : Option (List ℕ)). o >>= λ t. Some (folder ++ codes "/" ++ t ++ codes ".class")) is)
path_by folder name None is h = absurd cc

has_path : (folder name : List ℕ) → IsTrue (is_path_word name) → HasPath folder (Some name)
has_path folder name h = path_by folder name (text_of name) refl (parts (is_word name) (is_some (text_of name)) h).1

pub all_named : ClassesHavePaths
unfolding assembled statements
all_named text folder trees e =
    run_all HasName HasNameAt (λ t. HasPath folder (class_name t.pool t.this)) name_lasts (λ class h. subst (HasPath folder) (sym h.2) (has_path folder h.0 h.1))
    (statements text) 1 place.Start [] trees (lines_name (lines text)) tt tt e
