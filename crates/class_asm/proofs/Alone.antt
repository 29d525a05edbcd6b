-- The bytes of an instruction that needs nothing of the pool.
use Rattle.std.proofs.Common.{ℕ, Option, Some, None, Result, Ok, Err, List, refl, ap}
use Rattle.std.specs.Option.{option_map}
use Rattle.jsa_base.proofs.Codecs.{some_is}
use Rattle.jsa_ops.specs.Instruction.{Instruction}
use Rattle.jsa_ops.specs.Spelling.{text_of}
use Rattle.class_tree.specs.declared.constant_pool.PoolEntry.{PoolEntry}
use Rattle.asm_text.specs.declared.fault.LineFault.{LineFault}
use Rattle.asm_text.specs.declared.fault.LineFault.TheVariants.{Outside, Memory}
use Rattle.asm_text.specs.Outcome.{Gives, Yields}
use Rattle.class_asm.specs.Code.{alone, written}

pub alone_written : (place : ℕ) (pool : List PoolEntry) (made : Option Instruction) (r : Result (List ℕ) LineFault) → Yields (λ t. t) r (option_map (text_of place) made) → Gives (λ t. t) r pool (written place (alone pool made))
alone_written place pool (Some i) (Ok text) h = ap (λ (t : List ℕ). Some (t, pool)) (some_is (text_of place i) text h)
alone_written place pool None (Ok text) h = absurd cc
alone_written place pool (Some i) (Err Outside) h = absurd cc
alone_written place pool None (Err Outside) h = refl
alone_written place pool made (Err Memory) h = tt
