use Rattle.std.proofs.Common.{◌≡◌, ◌++◌, arith, ap, ◌∙◌}
use Rattle.std.specs.List.{flat_map, range_with_len}
use Rattle.mcs_model.specs.QueryText.{register_line}
use Rattle.mcs_model.specs.TextLines.{as_line}
use Rattle.mcs_answers.proofs.AppendedTexts.{append_piece}
use Rattle.mcs_answers.proofs.RamTexts.{chip_text_from_parts}
use Rattle.mcs_answers.proofs.ram.put_chip.Goals as goal

pub loop-r-preserved : goal.loop-r-preserved
loop-r-preserved c = record {
  text = append_piece (λ r. as_line (register_line c.args.bench.now.bus c.args.bank c.args.chip r)) c.loop-r.r _ _ _ c.loop-r.invariant.text c.put_register.ensures.text;
  count = omega arith;
}

pub returns-clause-text : goal.returns-clause-text
returns-clause-text c =
    let all : c.loop-r.r ≡ 4 = omega arith in
    chip_text_from_parts c.args.bench.now.bus c.args.bank c.args.chip _ _ _
    (c.loop-r.invariant.text ∙ ap (λ n. c.args.answer.now.items ++ flat_map (λ r. as_line (register_line c.args.bench.now.bus c.args.bank c.args.chip r)) (range_with_len 0 n)) all)
    c.put_port.ensures.text
