-- What is kept of the text at an index.
use Rattle.std.proofs.Common.{◌≡◌, ℕ, List, Option, Some, None, slice_get, refl, sym, ap, ◌∙◌}
use Rattle.std.specs.Option.{option_map}
use Rattle.std.proofs.lemmas.Option.{slice_get-map}
use Rattle.jsa_base.proofs.Codecs.{some_is}
use Rattle.class_tree.specs.declared.constant_pool.PoolEntry.{PoolEntry}
use Rattle.class_tree.specs.declared.tested_pool.TextForms.{TextForms}
use Rattle.class_tree.specs.TextForms.{forms_in, forms_of, all_forms}

in_place : (pool : List PoolEntry) (all : List TextForms) (i : ℕ) (found : Option TextForms) → all ≡ all_forms pool → slice_get all i ≡ found → option_map forms_of (slice_get pool i) ≡ found
unfolding all_forms
in_place pool all i found is h = sym (slice_get-map forms_of pool i) ∙ ap (λ (a : List TextForms). slice_get a i) (sym is) ∙ h

mapped : (e : Option PoolEntry) (found : TextForms) → option_map forms_of e ≡ Some found → found ≡ forms_in e
mapped (Some e) found h = sym (some_is (forms_of e) found h)
mapped None found h = absurd cc

unmapped : (e : Option PoolEntry) → option_map forms_of e ≡ None → forms_in None ≡ forms_in e
unmapped (Some e) h = absurd cc
unmapped None h = refl

pub is_found : (pool : List PoolEntry) (all : List TextForms) (i : ℕ) (found : TextForms) → all ≡ all_forms pool → slice_get all i ≡ Some found → found ≡ forms_in (slice_get pool i)
is_found pool all i found is h = mapped (slice_get pool i) found (in_place pool all i (Some found) is h)

pub is_missing : (pool : List PoolEntry) (all : List TextForms) (i : ℕ) → all ≡ all_forms pool → slice_get all i ≡ None → forms_in None ≡ forms_in (slice_get pool i)
is_missing pool all i is h = unmapped (slice_get pool i) (in_place pool all i None is h)
