use Rattle.std.proofs.Common.{rules, ◌∷◌, ◌<◌, length, take, ◌∙◌, ap, sym}
use Rattle.mcs_model.specs.TextLines.{words_of}
use Rattle.mcs_model.proofs.LineWords.{no_words, words_of-word_at_front}
use Rattle.mcs_lines.proofs.words.next_word.Goals as goal
use Rattle.mcs_model.proofs.ListLemmas.{take_rest-unchanged}

pub returns-then-is_empty : goal.returns-then-is_empty
returns-then-is_empty c = sym c.trim_leading_blanks-line.ensures.words ∙ no_words c.trim_leading_blanks-line.result.now (search rules)

pub returns : goal.returns
returns c =
    let some : 0 < length c.trim_leading_blanks-line.result.now = search rules in
    sym c.trim_leading_blanks-line.ensures.words
    ∙ words_of-word_at_front c.trim_leading_blanks-line.result.now c.first_word_length-end.result some c.trim_leading_blanks-line.ensures.begins c.first_word_length-end.ensures.word
    ∙ ap (λ v. take c.first_word_length-end.result c.trim_leading_blanks-line.result.now ∷ words_of v) (sym (take_rest-unchanged c.first_word_length-end.result c.trim_leading_blanks-line.result.now))
