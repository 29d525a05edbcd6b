use Rattle.std.proofs.Common.{◌≡◌, ◌∙◌, ap, List, ℕ, ◌++◌}
use Rattle.sha2.specs.Sha256.{sha256}
use Rattle.archive_header.specs.Header.{fields}
use Rattle.archive_header.proofs.Headers.{fields_are}
use Rattle.archive_header.proofs.header.write_header.Goals as goal

pub returns-clause-bytes : goal.returns-clause-bytes
returns-clause-bytes c =
    let h = c.args.header.now in
    let all : c.push-4.new.self ≡ fields h = fields_are h _ _ _ _ _ _ c.new-block.ensures c.push.ensures.bytes c.push_numbers.ensures c.push-2.ensures.bytes c.push-3.ensures.bytes c.push-4.ensures.bytes in
    c.whole.ensures ∙ c.push-5.ensures.bytes ∙ ap (λ (b : List ℕ). b ++ c.digest-digest.result) all ∙ ap (λ (d : List ℕ). fields h ++ d) (c.digest-digest.ensures ∙ ap sha256 (c.bytes.ensures ∙ all))
