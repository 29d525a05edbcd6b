use Rattle.std.proofs.Common.{◌≡◌, ◌-◌, length, []}
use Rattle.asm_text.specs.Quoted.{pieces}
use Rattle.asm_text.proofs.quoted.pieces.Given as goal

abbrev pub invariant-loop : goal.invariant-loop
invariant-loop l = pieces (length l.bytes - l.counter) l.text l.rest ≡ pieces (length l.bytes) [] l.bytes
