use Rattle.std.proofs.Common.{◌≡◌, ◌++◌, map, ap, ◌∙◌, sym, arith}
use Rattle.std.specs.List.{flat_map, range_with_len}
use Rattle.mcs_model.specs.Boards.{chain_count}
use Rattle.mcs_model.specs.QueryText.{chain_item, comma_list}
use Rattle.mcs_answers.specs.Commas.{with_comma, with_commas}
use Rattle.mcs_answers.proofs.AppendedTexts.{append_piece}
use Rattle.mcs_answers.proofs.ListedWords.{with_commas-map}
use Rattle.mcs_answers.proofs.state_lists.put_chain_list.Goals as goal

pub loop-n-preserved : goal.loop-n-preserved
loop-n-preserved c = record {
  text = append_piece (λ n. with_comma (chain_item c.args.bench.now.bus n)) c.loop-n.n _ _ _ c.loop-n.invariant.text c.put_chain_item.ensures.text;
  count = omega arith;
}

pub returns-clause-text : goal.returns-clause-text
returns-clause-text c =
    let s = c.args.bench.now.bus in
    let items = map (chain_item s) (range_with_len 0 (chain_count s.board)) in
    let board : chain_count c.board.result.now ≡ chain_count s.board = ap chain_count c.board.ensures in
    let all : c.loop-n.n ≡ chain_count s.board = omega (arith, board) in
    let listed : c.loop-n.answer.items ≡ c.put.new.answer.items ++ with_commas items =
    c.loop-n.invariant.text
    ∙ ap (λ n. c.put.new.answer.items ++ flat_map (λ n. with_comma (chain_item s n)) (range_with_len 0 n)) all
    ∙ ap (λ v. c.put.new.answer.items ++ v) (sym (with_commas-map (chain_item s) (range_with_len 0 (chain_count s.board)))) in
    c.end_list.ensures.text c.put.new.answer.items items (omega arith) listed
    ∙ ap (λ v. v ++ comma_list items) c.put.ensures.text
