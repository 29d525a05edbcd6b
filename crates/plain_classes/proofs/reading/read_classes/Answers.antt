use Rattle.std.proofs.Common.{◌≡◌, ◌∙◌, sym, arith, Some, None}
use Rattle.jsa_base.specs.Reading.{IsBytes}
use Rattle.jsa_base.proofs.Bytes.{each_byte}
use Rattle.plain_classes.specs.Records.{classes_of}
use Rattle.plain_classes.proofs.Lists.{takes, again}
use Rattle.plain_classes.proofs.reading.read_classes.Goals as goal

pub returns-in-Ok-clause-found : goal.returns-in-Ok-clause-found
returns-in-Ok-clause-found c =
    let fits : IsBytes c.args.bytes.now = each_byte c.args.bytes.now (λ i. omega (arith, c.type_inv.bytes i)) in
    takes c.args.bytes.now c.args.count c.in-Ok.classes fits c.in-Ok.ensures

pub returns-in-Ok-clause-only : goal.returns-in-Ok-clause-only
returns-in-Ok-clause-only c = λ classes s. sym c.in-Ok.ensures ∙ again c.args.bytes.now c.args.count classes s

pub returns-in-Err-NotClasses-clause-only : goal.returns-in-Err-NotClasses-clause-only
returns-in-Err-NotClasses-clause-only c =
    let nothing : classes_of c.args.count c.args.bytes.now ≡ None = rw c.in-Err-NotClasses.field-0-is at c.in-Err-NotClasses.ensures in
    λ classes s. let e : None ≡ Some classes = sym nothing ∙ again c.args.bytes.now c.args.count classes s in absurd cc
