use Rattle.std.proofs.Common.{arith}
use Rattle.jsa_base.specs.Reading.{IsBytes}
use Rattle.jsa_base.proofs.Bytes.{each_byte}
use Rattle.class_record.proofs.Short.{spelled_short}
use Rattle.class_linker.proofs.HeldFiles.{read_as_class, read_as_other, read_as_none}
use Rattle.class_linker.proofs.entering.held_of.Goals as goal

pub returns-in-Ok-clause-held : goal.returns-in-Ok-clause-held
returns-in-Ok-clause-held c =
    let fits : IsBytes c.args.bytes.now = each_byte c.args.bytes.now (λ i. omega (arith, c.type_inv.bytes i)) in
    read_as_class c.args.bytes.now c.in-Ok.tree fits c.in-Ok.ensures.causes

pub returns-in-Ok-clause-short : goal.returns-in-Ok-clause-short
returns-in-Ok-clause-short c = spelled_short c.args.bytes.now c.in-Ok.tree c.in-Ok.ensures.causes

pub returns-in-Err-NotClass-clause-held : goal.returns-in-Err-NotClass-clause-held
returns-in-Err-NotClass-clause-held c =
    let fits : IsBytes c.args.bytes.now = each_byte c.args.bytes.now (λ i. omega (arith, c.type_inv.bytes i)) in
    let h = rw c.in-Err-NotClass.field-0-is at c.in-Err-NotClass.ensures.causes in
    read_as_none c.args.bytes.now fits h.0 h.1

pub returns-in-Err-Version-clause-held : goal.returns-in-Err-Version-clause-held
returns-in-Err-Version-clause-held c =
    let fits : IsBytes c.args.bytes.now = each_byte c.args.bytes.now (λ i. omega (arith, c.type_inv.bytes i)) in
    let h = rw c.in-Err-Version.field-0-is at c.in-Err-Version.ensures.causes in
    read_as_other c.args.bytes.now c.in-Err-Version.field-0-0 c.in-Err-Version.field-0-1 fits h
