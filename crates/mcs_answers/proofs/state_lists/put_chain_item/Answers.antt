use Rattle.std.proofs.Common.{◌≡◌, ℕ, ◌++◌, codes, map, append-nil, append_assoc, ap, ◌∙◌, arith}
use Rattle.std.specs.List.{range_with_len}
use Rattle.mcs_model.specs.Boards.{chain_bits}
use Rattle.mcs_model.specs.Levels.{chain_bit}
use Rattle.mcs_model.specs.QueryText.{digit_text, hex_digit}
use Rattle.mcs_answers.proofs.ListedWords.{append_numbered}
use Rattle.mcs_answers.proofs.state_lists.put_chain_item.Goals as goal

pub loop-i-preserved : goal.loop-i-preserved
loop-i-preserved c =
    let s = c.args.bench.now.bus in
    record {
      text = append_numbered (λ i. hex_digit (chain_bit s c.args.n i)) c.loop-i.i _ _ _ c.loop-i.invariant.text
          (c.put_digit.ensures.text
          ∙ ap (λ v. v ++ digit_text c.get.result) (append-nil c.loop-i.answer.items)
          ∙ ap (λ v. c.loop-i.answer.items ++ digit_text v) (c.get.ensures.value ∙ c.chain_bit.ensures));
      count = omega arith;
    }

pub returns-clause-text : goal.returns-clause-text
returns-clause-text c =
    let s = c.args.bench.now.bus in
    let f = λ (i : ℕ). hex_digit (chain_bit s c.args.n i) in
    let all : c.loop-i.i ≡ chain_bits s.board c.args.n = omega (arith, c.chain_bit_count-bits.ensures.bits) in
    c.put.ensures.text
    ∙ ap (λ v. v ++ codes ",") (c.loop-i.invariant.text ∙ ap (λ n. c.args.answer.now.items ++ map f (range_with_len 0 n)) all)
    ∙ append_assoc c.args.answer.now.items (map f (range_with_len 0 (chain_bits s.board c.args.n))) (codes ",")
