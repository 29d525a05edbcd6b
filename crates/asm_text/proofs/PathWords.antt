-- A name has a path exactly where it has a text.
use Rattle.std.proofs.Common.{◌≡◌, ℕ, List, ◌++◌, Option, Some, None, is_some, refl, ap, ◌∙◌, sym}
use Rattle.std.specs.Prelude.{option_map, codes}
use Rattle.jsa_base.specs.Reading.{◌>>=◌}
use Rattle.jsa_names.specs.Paths.{text_of, path_of}

some_mapped : {A B : Type 0} (f : A → B) (o : Option A) → is_some (option_map f o) ≡ is_some o
some_mapped f (Some x) = refl
some_mapped f None = refl

some_bound : {A B : Type 0} (f : A → B) (o : Option A) → is_some (o >>= λ x. Some (f x)) ≡ is_some o
some_bound f (Some x) = refl
some_bound f None = refl

pub has_path_as : {S : Type 0} (bytes : S → List ℕ) (folder name : List ℕ) (path : Option S) → option_map bytes path ≡ path_of folder name → is_some path ≡ is_some (text_of name)
unfolding path_of
has_path_as bytes folder name path h = sym (some_mapped bytes path) ∙ ap is_some h ∙ some_bound (λ text. folder ++ codes "/" ++ text ++ codes ".class") (text_of name)
