-- To a code that is too long nothing is added.
use Rattle.std.proofs.Common.{◌≡◌, ◌≤◌, ℕ, Bool, false, Option, Some, None, List, ◌++◌, length, refl, ap, arith, length-append}
use Rattle.std.specs.Prelude.{nat_lt}
use Rattle.std.proofs.lemmas.Bool.Decides.{nat_tests}
use Rattle.jsa_base.specs.Reading.{◌>>=◌, when}
use Rattle.class_tree.specs.declared.constant_pool.PoolEntry.{PoolEntry}
use Rattle.asm_text.specs.declared.statement.Operation.{Operation}
use Rattle.class_asm.specs.declared.code_draft.CodeDraft.{CodeDraft}
use Rattle.class_asm.specs.Code.{emitted}
use Rattle.class_asm.specs.Drafts.{operation_added, with_pool}

above : (n : ℕ) → 65536 ≤ n → nat_lt n 65536 ≡ false
above n h = grind (arith, nat_tests)

pub long_is_none : (o : Operation) (code : CodeDraft) → 65536 ≤ length code.bytes → operation_added o code ≡ None
unfolding operation_added
long_is_none o code long = of (emitted code.labels (length code.bytes) o code.method.class.pool) where
  of : (text : Option (List ℕ × List PoolEntry)) → (text >>= λ t. when (nat_lt (length (code.bytes ++ t.0)) 65536) >>= λ few. Some (record code { method = with_pool code.method t.1; bytes = code.bytes ++ t.0 })) ≡ None
  of None = refl
  of (Some t) = ap (λ (b : Bool). when b >>= λ few. Some (record code { method = with_pool code.method t.1; bytes = code.bytes ++ t.0 })) (above (length (code.bytes ++ t.0)) (omega (arith, length-append code.bytes t.0, long)))
