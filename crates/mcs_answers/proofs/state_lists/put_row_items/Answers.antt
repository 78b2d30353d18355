use Rattle.std.proofs.Common.{◌≡◌, ◌++◌, ap, ◌∙◌, sym, arith}
use Rattle.std.specs.List.{flat_map, range_with_len}
use Rattle.mcs_model.specs.QueryText.{key_item}
use Rattle.mcs_answers.specs.Commas.{with_commas}
use Rattle.mcs_answers.proofs.AppendedTexts.{append_piece}
use Rattle.mcs_answers.proofs.ListedWords.{with_commas-flat_map}
use Rattle.mcs_answers.proofs.state_lists.put_row_items.Goals as goal

pub loop-column-preserved : goal.loop-column-preserved
loop-column-preserved c = record {
  text = append_piece (λ column. with_commas (key_item c.args.bench.now.bus c.args.row column)) c.loop-column.column _ _ _ c.loop-column.invariant.text c.put_key_item.ensures.text;
  count = omega arith;
}

pub returns-clause-text : goal.returns-clause-text
returns-clause-text c =
    let f = key_item c.args.bench.now.bus c.args.row in
    let all : c.loop-column.column ≡ c.args.columns = omega arith in
    c.loop-column.invariant.text
    ∙ ap (λ n. c.args.answer.now.items ++ flat_map (λ column. with_commas (f column)) (range_with_len 0 n)) all
    ∙ ap (λ v. c.args.answer.now.items ++ v) (sym (with_commas-flat_map f (range_with_len 0 c.args.columns)))
