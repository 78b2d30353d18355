use Rattle.std.proofs.Common.{◌++◌, map, ap, ◌∙◌, sym, arith}
use Rattle.mcs_model.specs.QueryText.{address_text, comma_list}
use Rattle.mcs_answers.proofs.ListedWords.{with_commas-map}
use Rattle.mcs_answers.proofs.state_lists.put_address_list.Goals as goal

pub returns-clause-text : goal.returns-clause-text
returns-clause-text c =
    let items = map address_text c.args.list.now in
    c.end_list.ensures.text c.put.new.answer.items items (omega arith)
    (c.put_address_items.ensures.text ∙ ap (λ v. c.put.new.answer.items ++ v) (sym (with_commas-map address_text c.args.list.now)))
    ∙ ap (λ v. v ++ comma_list items) c.put.ensures.text
