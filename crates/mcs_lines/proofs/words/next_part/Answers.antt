use Rattle.std.proofs.Common.{◌∷◌, ◌+◌, take, ◌∙◌, ap, sym, arith}
use Rattle.mcs_lines.specs.Words.{parts_of_word}
use Rattle.mcs_lines.proofs.WordParts.{parts_if_first_dot_at_index, word_is_its_only_part}
use Rattle.mcs_lines.proofs.words.next_part.Goals as goal
use Rattle.mcs_model.proofs.ListLemmas.{take_rest-unchanged}

pub returns-then-end-word : goal.returns-then-end-word
returns-then-end-word c =
    parts_if_first_dot_at_index c.args.word.now c.first_part_length-end.result (omega arith) c.first_part_length-end.ensures.part
    ∙ ap (λ v. take c.first_part_length-end.result c.args.word.now ∷ parts_of_word v) (sym (take_rest-unchanged (c.first_part_length-end.result + 1) c.args.word.now))

pub returns-else-end-word : goal.returns-else-end-word
returns-else-end-word c = word_is_its_only_part c.args.word.now c.first_part_length-end.result (omega arith) c.first_part_length-end.ensures.part
