use Rattle.std.proofs.Common.{◌≡◌, [], not, sym, ◌∙◌, rules, tests}
use Rattle.std.proofs.lemmas.Iterator.{YieldsList-from_slice}
use Rattle.std.proofs.lemmas.Iterator.Search.{position_from_yields_List}
use Rattle.text.specs.Texts.{blank, words_of}
use Rattle.text.proofs.Reading.{word_first, word_none}
use Rattle.text.proofs.text.next_word.Goals as goal

pub returns-in_err-start : goal.returns-in_err-start
returns-in_err-start c =
    let start = position_from_yields_List (λ b. not (blank b)) _ _ c.position.result c.position.ensures.ran (YieldsList-from_slice _ c.iter.ensures.rest) (λ x b q k. search (rules, tests)) in
    let words : words_of c.args.line.now ≡ [] = word_none c.args.line.now (sym start ∙ c.in_err-start.was) in
    search rules

pub returns : goal.returns
returns c =
    let start = position_from_yields_List (λ b. not (blank b)) _ _ c.position.result c.position.ensures.ran (YieldsList-from_slice _ c.iter.ensures.rest) (λ x b q k. search (rules, tests)) in
    let end = position_from_yields_List blank _ _ c.position-end.result c.position-end.ensures.ran (YieldsList-from_slice _ c.iter-2.ensures.rest) (λ x b q k. search (rules, tests)) in
    let cut = c.split_at.ensures in
    word_first c.args.line.now _ _ _ _ _ (sym start ∙ c.in_ok-start.was) end c.unwrap_or.ensures cut.front cut.back
