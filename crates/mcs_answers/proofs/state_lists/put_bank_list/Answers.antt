use Rattle.std.proofs.Common.{◌≡◌, ◌++◌, ap, ◌∙◌, sym, arith}
use Rattle.std.specs.List.{flat_map, range_with_len}
use Rattle.mcs_model.specs.declared.limits.TheConstants.{BANKS}
use Rattle.mcs_model.specs.QueryText.{bank_items, comma_list}
use Rattle.mcs_answers.specs.Commas.{with_commas}
use Rattle.mcs_answers.proofs.AppendedTexts.{append_piece}
use Rattle.mcs_answers.proofs.ListedWords.{with_commas-flat_map}
use Rattle.mcs_answers.proofs.state_lists.put_bank_list.Goals as goal

pub loop-bank-preserved : goal.loop-bank-preserved
loop-bank-preserved c = record {
  text = append_piece (λ bank. with_commas (bank_items c.args.bench.now.bus bank)) c.loop-bank.bank _ _ _ c.loop-bank.invariant.text c.put_bank_item.ensures.text;
  count = omega arith;
}

pub returns-clause-text : goal.returns-clause-text
returns-clause-text c =
    let items = flat_map (bank_items c.args.bench.now.bus) (range_with_len 0 BANKS) in
    let all : c.loop-bank.bank ≡ BANKS = omega arith in
    let listed : c.loop-bank.answer.items ≡ c.put.new.answer.items ++ with_commas items =
    c.loop-bank.invariant.text
    ∙ ap (λ n. c.put.new.answer.items ++ flat_map (λ bank. with_commas (bank_items c.args.bench.now.bus bank)) (range_with_len 0 n)) all
    ∙ ap (λ v. c.put.new.answer.items ++ v) (sym (with_commas-flat_map (bank_items c.args.bench.now.bus) (range_with_len 0 BANKS))) in
    c.end_list.ensures.text c.put.new.answer.items items (omega arith) listed
    ∙ ap (λ v. v ++ comma_list items) c.put.ensures.text
