use Rattle.std.proofs.Common.{◌≡◌, ◌<◌, length, sym, arith, Some, None, []}
use Rattle.std.specs.Prelude.{position}
use Rattle.std.specs.Str.{bytes_eq}
use Rattle.std.proofs.lemmas.List.Quantifiers.{position-Some}
use Rattle.asm_text.specs.Mnemonics.{words}
use Rattle.asm_text.proofs.Names.{found_at}
use Rattle.asm_text.proofs.mnemonics.opcode_among.Goals as goal

pub returns-in_default : goal.returns-in_default
returns-in_default c =
    let e : None ≡ position (bytes_eq c.args.word.now) (words c.args.names.now) = rw c.as_bytes.ensures.value at c.in_default.ensures in
    sym (found_at (bytes_eq c.args.word.now) c.args.first (words c.args.names.now) None e)

pub overflow_cast-result : goal.overflow_cast-result
overflow_cast-result c =
    let e : Some c.in-Some.place ≡ position (bytes_eq c.args.word.now) (words c.args.names.now) = rw c.as_bytes.ensures.value at c.in-Some.ensures in
    let p = position-Some (bytes_eq c.args.word.now) (words c.args.names.now) c.in-Some.place [] (sym e) in
    let q : c.in-Some.place < length (words c.args.names.now) = p.0 in
    omega (arith, q, c.requires)

pub overflow_add-result : goal.overflow_add-result
overflow_add-result c =
    let e : Some c.in-Some.place ≡ position (bytes_eq c.args.word.now) (words c.args.names.now) = rw c.as_bytes.ensures.value at c.in-Some.ensures in
    let p = position-Some (bytes_eq c.args.word.now) (words c.args.names.now) c.in-Some.place [] (sym e) in
    let q : c.in-Some.place < length (words c.args.names.now) = p.0 in
    omega (arith, q, c.requires)

pub returns : goal.returns
returns c =
    let e : Some c.in-Some.place ≡ position (bytes_eq c.args.word.now) (words c.args.names.now) = rw c.as_bytes.ensures.value at c.in-Some.ensures in
    sym (found_at (bytes_eq c.args.word.now) c.args.first (words c.args.names.now) (Some c.in-Some.place) e)
