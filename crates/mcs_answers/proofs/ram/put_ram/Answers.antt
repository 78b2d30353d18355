use Rattle.std.proofs.Common.{◌≡◌, ◌∷◌, [], ◌++◌, codes, arith, ap, ◌∙◌}
use Rattle.std.specs.List.{flat_map, range_with_len}
use Rattle.mcs_model.specs.Bus.{chips_of}
use Rattle.mcs_model.specs.QueryText.{chip_lines, digit_text}
use Rattle.mcs_model.specs.TextLines.{as_line}
use Rattle.mcs_answers.proofs.AppendedTexts.{append_piece}
use Rattle.mcs_answers.proofs.RamTexts.{ram_text_from_parts}
use Rattle.mcs_answers.proofs.ram.put_ram.Goals as goal

pub loop-chip-preserved : goal.loop-chip-preserved
loop-chip-preserved c = record {
  text = append_piece (λ chip. flat_map as_line (chip_lines c.args.bench.now.bus c.args.bank chip)) c.loop-chip.chip _ _ _ c.loop-chip.invariant.text c.put_chip.ensures.text;
  count = omega arith;
}

pub returns : goal.returns
returns c =
    let all : c.loop-chip.chip ≡ chips_of c.args.bench.now.bus c.args.bank = omega (arith, c.chips_of-chips.ensures.chips) in
    ram_text_from_parts c.args.bench.now.bus c.args.bank _ _
    (c.put.ensures.text
    ∙ ap (λ v. v ++ 10 ∷ []) (c.put_digit-2.ensures.text ∙ ap (λ v. v ++ codes " chips " ++ digit_text c.chips_of-chips.result) (c.put_digit.ensures.text ∙ ap (λ v. v ++ codes "ram " ++ digit_text c.args.bank) c.requires.empty))
    ∙ ap (λ n. as_line (codes "ram " ++ digit_text c.args.bank ++ codes " chips " ++ digit_text n)) c.chips_of-chips.ensures.chips)
    (c.loop-chip.invariant.text ∙ ap (λ n. c.put.new.answer.items ++ flat_map (λ chip. flat_map as_line (chip_lines c.args.bench.now.bus c.args.bank chip)) (range_with_len 0 n)) all)
