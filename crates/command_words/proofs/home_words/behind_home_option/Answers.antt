use Rattle.std.proofs.Common.{◌≡◌, ◌-◌, length, take, drop, map, ◌∷◌, Some, None, ap, sym, ◌∙◌}
use Rattle.std.specs.Option.{option_map}
use Rattle.std.specs.String.{string_bytes}
use Rattle.command_words.specs.HomeWords.{home_options_from, with_option, with_path_option}
use Rattle.command_words.specs.Requests.{home_options_view}
use Rattle.command_words.proofs.Options.{first_of, two_given, one_given}
use Rattle.command_words.proofs.home_words.behind_home_option.Goals as goal

pub returns-in-Some-with_path_option-clause-value : goal.returns-in-Some-with_path_option-clause-value
returns-in-Some-with_path_option-clause-value c =
    let o = home_options_view c.args.options in
    let next = home_options_view c.in-Some-with_path_option.next in
    let words = c.args.words.now in
    let others = take (length words - 1) (drop 1 words) in
    let more = take (length others - 1) (drop 1 others) in
    let word = string_bytes c.word-item.result in
    let second = string_bytes c.second-item.result in
    let two : Some next ≡ with_path_option o word second =
    ap (option_map home_options_view) (sym c.in-Some-with_path_option.is) ∙ c.with_path_option.ensures ∙ (λ i. with_path_option o (c.as_str-2.ensures.value i) (c.as_str-3.ensures.value i)) in
    ap (λ l. home_options_from o (map string_bytes l)) (first_of words c.word-item.result c.word-item.is c.in-len1-up.len_at_least)
    ∙ ap (λ l. home_options_from o (word ∷ map string_bytes l)) (first_of others c.second-item.result c.second-item.is c.in-len1-up-others.len_at_least)
    ∙ two_given o next word second (map string_bytes more) two

pub returns-in-Some-with_option-clause-value : goal.returns-in-Some-with_option-clause-value
returns-in-Some-with_option-clause-value c =
    let o = home_options_view c.args.options in
    let next = home_options_view c.in-Some-with_option.next in
    let words = c.args.words.now in
    let others = take (length words - 1) (drop 1 words) in
    let more = take (length others - 1) (drop 1 others) in
    let word = string_bytes c.word-item.result in
    let second = string_bytes c.second-item.result in
    let cut = first_of others c.second-item.result c.second-item.is c.in-len1-up-others.len_at_least in
    let none : None ≡ with_path_option o word second =
    ap (option_map home_options_view) (sym c.in_default-with_path_option.is) ∙ c.with_path_option.ensures ∙ (λ i. with_path_option o (c.as_str-2.ensures.value i) (c.as_str-3.ensures.value i)) in
    let one : Some next ≡ with_option o word =
    ap (option_map home_options_view) (sym c.in-Some-with_option.is) ∙ c.with_option-2.ensures ∙ (λ i. with_option o (c.as_str-4.ensures.value i)) in
    ap (λ l. home_options_from o (map string_bytes l)) (first_of words c.word-item.result c.word-item.is c.in-len1-up.len_at_least)
    ∙ ap (λ l. home_options_from o (word ∷ map string_bytes l)) cut
    ∙ one_given o next word second (map string_bytes more) none one
    ∙ ap (λ l. home_options_from next (map string_bytes l)) (sym cut)
