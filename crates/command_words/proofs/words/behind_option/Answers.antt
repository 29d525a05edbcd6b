use Rattle.std.proofs.Common.{◌≡◌, ◌-◌, length, take, drop, map, ◌∷◌, Some, None, ap, sym, ◌∙◌}
use Rattle.std.specs.Option.{option_map}
use Rattle.std.specs.String.{string_bytes}
use Rattle.command_words.specs.Words.{options_from, with_word, with_words}
use Rattle.command_words.specs.Requests.{taken_view}
use Rattle.command_words.proofs.Options.{first_of, two_taken, one_taken}
use Rattle.command_words.proofs.words.behind_option.Goals as goal

pub returns-in-Some-with_words-clause-value : goal.returns-in-Some-with_words-clause-value
returns-in-Some-with_words-clause-value c =
    let t = taken_view c.args.taken in
    let next = taken_view c.in-Some-with_words.next in
    let words = c.args.words.now in
    let others = take (length words - 1) (drop 1 words) in
    let more = take (length others - 1) (drop 1 others) in
    let word = string_bytes c.word-item.result in
    let second = string_bytes c.second-item.result in
    let two : Some next ≡ with_words t word second =
    ap (option_map taken_view) (sym c.in-Some-with_words.is) ∙ c.with_words.ensures ∙ (λ i. with_words t (c.as_str-2.ensures.value i) (c.as_str-3.ensures.value i)) in
    ap (λ l. options_from t (map string_bytes l)) (first_of words c.word-item.result c.word-item.is c.in-len1-up.len_at_least)
    ∙ ap (λ l. options_from t (word ∷ map string_bytes l)) (first_of others c.second-item.result c.second-item.is c.in-len1-up-others.len_at_least)
    ∙ two_taken t next word second (map string_bytes more) two

pub returns-in-Some-with_word-clause-value : goal.returns-in-Some-with_word-clause-value
returns-in-Some-with_word-clause-value c =
    let t = taken_view c.args.taken in
    let next = taken_view c.in-Some-with_word.next in
    let words = c.args.words.now in
    let others = take (length words - 1) (drop 1 words) in
    let more = take (length others - 1) (drop 1 others) in
    let word = string_bytes c.word-item.result in
    let second = string_bytes c.second-item.result in
    let cut = first_of others c.second-item.result c.second-item.is c.in-len1-up-others.len_at_least in
    let none : None ≡ with_words t word second =
    ap (option_map taken_view) (sym c.in_default-with_words.is) ∙ c.with_words.ensures ∙ (λ i. with_words t (c.as_str-2.ensures.value i) (c.as_str-3.ensures.value i)) in
    let one : Some next ≡ with_word t word =
    ap (option_map taken_view) (sym c.in-Some-with_word.is) ∙ c.with_word-2.ensures ∙ (λ i. with_word t (c.as_str-4.ensures.value i)) in
    ap (λ l. options_from t (map string_bytes l)) (first_of words c.word-item.result c.word-item.is c.in-len1-up.len_at_least)
    ∙ ap (λ l. options_from t (word ∷ map string_bytes l)) cut
    ∙ one_taken t next word second (map string_bytes more) none one
    ∙ ap (λ l. options_from next (map string_bytes l)) (sym cut)
