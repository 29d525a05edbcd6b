-- The package of a class and its run-time package (JVMS 5.3).
use Rattle.std.specs.Prelude.{ℕ, List, [], ◌∷◌, Bool, true, false, ◌&&◌, ◌==◌, if◌then◌else◌}
use Rattle.std.specs.List.{list_any}
use Rattle.std.specs.Str.{bytes_eq}
use Rattle.loader_rules.specs.declared.loader.Loader.{Loader}
use Rattle.loader_rules.specs.declared.loader.Loader.TheVariants.{Boot, Platform, App}

-- the name of a class's package: all before the last slash, so each byte that has a slash behind it
unfoldable pub package_of : List ℕ → List ℕ
package_of [] = []
package_of (byte ∷ bytes) = if list_any (λ b. b == 47) bytes then byte ∷ package_of bytes else []

abbrev pub is_same_loader : Loader → Loader → Bool
is_same_loader Boot Boot = true
is_same_loader Boot Platform = false
is_same_loader Boot App = false
is_same_loader Platform Boot = false
is_same_loader Platform Platform = true
is_same_loader Platform App = false
is_same_loader App Boot = false
is_same_loader App Platform = false
is_same_loader App App = true

-- Two classes, each with the loader that defines it, share a run-time package: one loader and one package.
abbrev pub share_package : List ℕ → Loader → List ℕ → Loader → Bool
share_package a la b lb = is_same_loader la lb && bytes_eq (package_of a) (package_of b)
