-- The folders of the three loaders.
use Rattle.std.specs.Prelude.{ℕ, List, length, Bool, ◌&&◌, nat_lt, refl}
use Rattle.std.specs.Coded.{Coded, code_by, coded×, coded_ℕ, coded_list}

-- each loader's folders, by their paths, in the order in which they are asked
pub record FolderLists : Type 0 where
  pub boot : List (List ℕ)
  pub platform : List (List ℕ)
  pub app : List (List ℕ)

-- One boot and one platform folder at most, and each application folder has a number of 32 bits.
abbrev pub are_lists : FolderLists → Bool
are_lists lists = nat_lt (length lists.boot) 2 && nat_lt (length lists.platform) 2 && nat_lt (length lists.app) 0xffff_ffff

-- They are coded as the three lists.
abbrev pub lists_code : Coded FolderLists
lists_code = code_by (List (List ℕ) × (List (List ℕ) × List (List ℕ))) (coded× (coded_list (coded_list coded_ℕ)) (coded× (coded_list (coded_list coded_ℕ)) (coded_list (coded_list coded_ℕ)))) (λ l. (l.boot, (l.platform, l.app))) (λ p. record { boot = p.0; platform = p.1.0; app = p.1.1 }) (λ _. refl)
