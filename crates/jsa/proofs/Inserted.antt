-- What a map holds where a path was written.
use Rattle.std.proofs.Common.{◌≡◌, ◌≢◌, ◌∙◌, ℕ, List, Bool, true, false, cond, Some, refl, ap}
use Rattle.std.specs.Str.{bytes_eq}
use Rattle.std.specs.FinMap.{get, insert, get-insert}
use Rattle.std.specs.Cmp.Lexicographic.{nat_list_cmp_total}
use Rattle.std.proofs.lemmas.Map.Text.{is_eq-slice_cmp}
use Rattle.jsa_files.specs.Store.{Contents}
use Rattle.archive_mapper.proofs.Fronts.{same_bytes}

-- Every other path holds what it held.
pub get_other : (contents : Contents) (written bytes path : List ℕ) → path ≢ written → get (insert contents written bytes) path ≡ get contents path
get_other contents written bytes path other =
    get-insert nat_list_cmp_total contents written bytes path ∙ ap (λ (t : Bool). cond t (Some bytes) (get contents path)) (is_eq-slice_cmp path written ∙ by (bytes_eq path written) refl)
  where
    by : (t : Bool) → bytes_eq path written ≡ t → bytes_eq path written ≡ false
    by true e = absurd (other (same_bytes path written e))
    by false e = e
