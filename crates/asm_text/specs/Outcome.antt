-- What functions answer that may be refused or run out of memory.
use Rattle.std.specs.Prelude.{◌≡◌, Option, Some, None, Result, Ok, Err, ⊤}
use Rattle.asm_text.specs.declared.fault.LineFault.{LineFault}
use Rattle.asm_text.specs.declared.fault.LineFault.TheVariants.{Outside, Memory}

-- What a refusal says of the definition: that it has no value. Want of memory says nothing.
abbrev pub Refuses : {Y : Type 0} → LineFault → Option Y → Type 0
Refuses Outside defined = defined ≡ None
Refuses Memory defined = ⊤

-- What a function returned, seen by view, and the state that it left are what the definition has.
abbrev pub Gives : {X Y S : Type 0} → (X → Y) → Result X LineFault → S → Option (Y × S) → Type 0
Gives view (Ok x) left defined = defined ≡ Some (view x, left)
Gives view (Err fault) left defined = Refuses fault defined

-- The same of a function that leaves no state.
abbrev pub Yields : {X Y : Type 0} → (X → Y) → Result X LineFault → Option Y → Type 0
Yields view (Ok x) defined = defined ≡ Some (view x)
Yields view (Err fault) defined = Refuses fault defined

-- The same of a function that returns nothing.
abbrev pub Does : {X S : Type 0} → Result X LineFault → S → Option S → Type 0
Does (Ok x) left defined = defined ≡ Some left
Does (Err fault) left defined = Refuses fault defined
