-- A call on an object: the operands, then the test of a protected method, then the result.
use Rattle.std.proofs.Common.{◌≡◌, ℕ, List, [], ◌∷◌, length, drop, Option, sym, ap, ◌∙◌, subst}
use Rattle.std.specs.Prelude.{slice_get, Result, Ok}
use Rattle.jsa_names.specs.Types.{JavaMethod}
use Rattle.verify_rules.specs.declared.ask.Ask.{Ask}
use Rattle.verify_rules.specs.declared.types.VType.{VType}
use Rattle.verify_rules.specs.declared.types.VType.TheVariants.{Object}
use Rattle.verify_rules.specs.declared.cause.Stop.{Stop}
use Rattle.verify_rules.specs.Asking.{Did, Checked, and_then}
use Rattle.verify_rules.specs.Env.{Env, vtypes_of}
use Rattle.verify_rules.specs.Members.{NamedMember, method_test}
use Rattle.verify_rules.specs.Calls.{took, put_result, object_called}
use Rattle.type_verifier.proofs.Asked.{did_then, did_nothing, checked_then}

module _ (e : Env) (class : List ℕ) (m : NamedMember) (t : JavaMethod) (stack wanted rest : List VType) (k n room : ℕ) (object : Option VType)
    (types : wanted ≡ Object class ∷ vtypes_of t.parameters) (place : k ≡ length t.parameters) (count : n ≡ length wanted) (at : object ≡ slice_get stack k) (left : rest ≡ drop n stack) (within : room ≡ e.code.stack) where
  pub called : {U V W : Type 0} (old mid new : List Ask) (u : U) (v : V) (r : Result W Stop) (x : List VType) → Did (took wanted stack) old mid (Ok u) (drop (length wanted) stack) → Checked (method_test e m object) mid new (Ok v)
      → Did (put_result room t.result rest) [] [] r x → Did (object_called e class m t stack) old new r x
  called old mid new u v r x h j p =
      let all = Object class ∷ vtypes_of t.parameters in
      let below = slice_get stack (length t.parameters) in
      let taken = subst (λ (s : List VType). Did (took all stack) old mid (Ok u) s) (sym (left ∙ ap (λ (i : ℕ). drop i stack) count)) (subst (λ (w : List VType). Did (took w stack) old mid (Ok u) (drop (length wanted) stack)) types h) in
      let tested = subst (λ (o : Option VType). Checked (method_test e m o) mid new (Ok v)) (at ∙ ap (slice_get stack) place) j in
      let put = did_nothing (put_result e.code.stack t.result rest) new r x (subst (λ (i : ℕ). Did (put_result i t.result rest) [] [] r x) within p) in
      did_then (took all stack) (λ (s : List VType). and_then (method_test e m below) (put_result e.code.stack t.result s)) old mid new u rest r x taken
      (checked_then (method_test e m below) (put_result e.code.stack t.result rest) mid new new v r x tested put)
