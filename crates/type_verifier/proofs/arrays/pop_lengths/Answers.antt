use Rattle.std.proofs.Common.{◌≡◌, ℕ, suc, ◌+◌, ◌-◌, ◌<◌, List, refl, sym, ◌∙◌, arith}
use Rattle.std.specs.Prelude.{Ok}
use Rattle.verify_rules.specs.declared.types.VType.{VType}
use Rattle.verify_rules.specs.declared.letter.Letter.TheVariants.{Int}
use Rattle.verify_rules.specs.Causes.{Typed, Does, ◌>>=◌}
use Rattle.verify_rules.specs.Letters.{pop_letter}
use Rattle.verify_rules.specs.Arrays.{pop_lengths}
use Rattle.type_verifier.proofs.arrays.pop_lengths.Goals as goal

one_more : (n k : ℕ) (s : List VType) → k < n → pop_lengths (n - k) s ≡ (pop_letter Int s >>= λ t. pop_lengths (n - (k + 1)) t)
unfolding pop_lengths
one_more n k s lt = let e : n - k ≡ suc (n - (k + 1)) = omega arith in rw e refl

one_taken : {U : Type 0} (n k : ℕ) (s new : List VType) (whole : Typed (List VType)) (u : U) → k < n → pop_lengths (n - k) s ≡ whole → Does (pop_letter Int s) (Ok u) new → pop_lengths (n - (k + 1)) new ≡ whole
one_taken n k s new whole u lt e h = sym (one_more n k s lt ∙ rw h refl) ∙ e

pub loop-preserved : goal.loop-preserved
loop-preserved c = one_taken c.args.count c.loop.counter c.loop.stack c.pop_letter.new.stack (pop_lengths c.args.count c.args.stack.now) c.in_ok-pop_letter.field-0 (omega arith) c.loop.invariant c.in_ok-pop_letter.ensures
