use Rattle.std.proofs.Common.{◌≡◌, ◌++◌, ap, ◌∙◌, sym, arith}
use Rattle.std.specs.List.{flat_map, range_with_len}
use Rattle.mcs_model.specs.Bus.{chips_of}
use Rattle.mcs_answers.specs.PortPieces.{ram_item}
use Rattle.mcs_answers.specs.Commas.{with_comma}
use Rattle.mcs_answers.proofs.AppendedTexts.{append_piece}
use Rattle.mcs_answers.proofs.ListedWords.{with_commas-map}
use Rattle.mcs_answers.proofs.state_lists.put_ram_items.Goals as goal

pub loop-chip-preserved : goal.loop-chip-preserved
loop-chip-preserved c = record {
  text = append_piece (λ chip. with_comma (ram_item c.args.bench.now.bus c.args.bank chip)) c.loop-chip.chip _ _ _ c.loop-chip.invariant.text c.put_ram_item.ensures.text;
  count = omega arith;
}

pub returns-clause-text : goal.returns-clause-text
returns-clause-text c =
    let s = c.args.bench.now.bus in
    let all : c.loop-chip.chip ≡ chips_of s c.args.bank = omega (arith, c.chips_of-chips.ensures.chips) in
    c.loop-chip.invariant.text
    ∙ ap (λ n. c.args.answer.now.items ++ flat_map (λ chip. with_comma (ram_item s c.args.bank chip)) (range_with_len 0 n)) all
    ∙ ap (λ v. c.args.answer.now.items ++ v) (sym (with_commas-map (ram_item s c.args.bank) (range_with_len 0 (chips_of s c.args.bank))))
