use Rattle.std.proofs.Common.{◌≡◌, ◌++◌, ap, ◌∙◌, sym, arith}
use Rattle.std.specs.List.{flat_map, range_with_len}
use Rattle.mcs_model.specs.QueryText.{row_items}
use Rattle.mcs_answers.specs.Commas.{with_commas}
use Rattle.mcs_answers.proofs.AppendedTexts.{append_piece}
use Rattle.mcs_answers.proofs.ListedWords.{with_commas-flat_map}
use Rattle.mcs_answers.proofs.state_lists.put_key_rows.Goals as goal

pub loop-row-preserved : goal.loop-row-preserved
loop-row-preserved c = record {
  text = append_piece (λ row. with_commas (row_items c.args.bench.now.bus c.args.columns row)) c.loop-row.row _ _ _ c.loop-row.invariant.text c.put_row_items.ensures.text;
  count = omega arith;
}

pub returns-clause-text : goal.returns-clause-text
returns-clause-text c =
    let f = row_items c.args.bench.now.bus c.args.columns in
    let all : c.loop-row.row ≡ c.args.rows = omega arith in
    c.loop-row.invariant.text
    ∙ ap (λ n. c.args.answer.now.items ++ flat_map (λ row. with_commas (f row)) (range_with_len 0 n)) all
    ∙ ap (λ v. c.args.answer.now.items ++ v) (sym (with_commas-flat_map f (range_with_len 0 c.args.rows)))
