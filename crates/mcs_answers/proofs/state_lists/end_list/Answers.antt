use Rattle.std.proofs.Common.{◌≡◌, ◌+◌, length, length-append, ap, ◌∙◌, arith}
use Rattle.mcs_answers.specs.Commas.{with_commas}
use Rattle.mcs_answers.proofs.ListedWords.{comma_list_if_last_comma_removed}
use Rattle.mcs_answers.proofs.state_lists.end_list.Goals as goal

pub returns-else-len-start-clause-text : goal.returns-else-len-start-clause-text
returns-else-len-start-clause-text c before items start listed =
    let old_length : length c.args.answer.now.items ≡ length before + length (with_commas items) =
    ap length listed ∙ length-append before (with_commas items) in
    comma_list_if_last_comma_removed before c.args.answer.now.items _ items (omega arith) listed c.pop.ensures.rest
