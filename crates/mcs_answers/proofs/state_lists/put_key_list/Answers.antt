use Rattle.std.proofs.Common.{◌++◌, ap, ◌∙◌, arith}
use Rattle.mcs_model.specs.QueryText.{key_items, comma_list}
use Rattle.mcs_answers.proofs.state_lists.put_key_list.Goals as goal

pub returns-clause-text : goal.returns-clause-text
returns-clause-text c =
    let items = key_items c.args.bench.now.bus in
    c.end_list.ensures.text c.put.new.answer.items items (omega arith) c.put_key_items.ensures.text
    ∙ ap (λ v. v ++ comma_list items) c.put.ensures.text
