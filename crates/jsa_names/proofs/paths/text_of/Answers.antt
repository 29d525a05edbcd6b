use Rattle.std.proofs.Common.{◌≡◌, sym, ap, ◌∙◌, is_err, true, false}
use Rattle.std.specs.Str.{encode_utf8_all}
use Rattle.std.specs.String.{string_bytes}
use Rattle.std.specs.Char.Utf16.{has_unpaired_surrogate, utf16_lossy_chars}
use Rattle.jsa_names.specs.Paths.{is_path_name}
use Rattle.jsa_names.proofs.NameTexts.{no_units, no_name, no_characters, whole_text, paired, unpaired}
use Rattle.jsa_names.proofs.paths.text_of.Goals as goal

pub returns-then-not-is_mutf8 : goal.returns-then-not-is_mutf8
returns-then-not-is_mutf8 c = sym (no_units c.args.name.now (sym c.is_mutf8.ensures ∙ c.if-not-is_mutf8.true))

pub returns-then-not-is_path_name : goal.returns-then-not-is_path_name
returns-then-not-is_path_name c =
    let e : is_path_name c.args.name.now c.deref.result.now ≡ false = sym c.is_path_name.ensures ∙ c.if-not-is_path_name.true in
    sym (no_name c.args.name.now c.in_ok-units.units.items c.in_ok-units.ensures (rw c.deref.ensures.value at e))

pub returns-in_default : goal.returns-in_default
returns-in_default c =
    let e : has_unpaired_surrogate c.deref-2.result.now ≡ true = sym c.in_ok-text.ensures.unpaired ∙ ap is_err c.in_default.is in
    sym (no_characters c.args.name.now c.in_ok-units.units.items c.in_ok-units.ensures (unpaired c.in_ok-units.units.items (rw c.deref-2.ensures.value at e)))

pub returns : goal.returns
returns c =
    let e : has_unpaired_surrogate c.deref-2.result.now ≡ false = sym c.in_ok-text.ensures.unpaired ∙ ap is_err c.in-Ok.is in
    let f : is_path_name c.args.name.now c.deref.result.now ≡ true = sym c.is_path_name.ensures ∙ c.if-not-is_path_name.false in
    let t : string_bytes c.in-Ok.text ≡ encode_utf8_all (utf16_lossy_chars c.deref-2.result.now) = rw c.in-Ok.is at c.in_ok-text.ensures.chars in
    let u : string_bytes c.in-Ok.text ≡ encode_utf8_all (utf16_lossy_chars c.in_ok-units.units.items) = rw c.deref-2.ensures.value at t in
    let w = whole_text c.args.name.now c.in_ok-units.units.items (utf16_lossy_chars c.in_ok-units.units.items) c.in_ok-units.ensures
    (paired c.in_ok-units.units.items (rw c.deref-2.ensures.value at e)) (rw c.deref.ensures.value at f) in
    cc
