use Rattle.std.proofs.Common.{◌≡◌, ◌++◌, ap, ◌∙◌, sym, arith}
use Rattle.std.specs.List.{flat_map, range_with_len}
use Rattle.mcs_model.specs.declared.limits.TheConstants.{ROMS}
use Rattle.mcs_model.specs.QueryText.{comma_list}
use Rattle.mcs_model.specs.QueryText.{rom_items}
use Rattle.mcs_answers.specs.Commas.{with_commas}
use Rattle.mcs_answers.proofs.AppendedTexts.{append_piece}
use Rattle.mcs_answers.proofs.ListedWords.{with_commas-flat_map}
use Rattle.mcs_answers.proofs.state_lists.put_rom_list.Goals as goal

pub loop-chip-preserved : goal.loop-chip-preserved
loop-chip-preserved c = record {
  text = append_piece (λ chip. with_commas (rom_items c.args.bench.now.bus chip)) c.loop-chip.chip _ _ _ c.loop-chip.invariant.text c.put_rom_item.ensures.text;
  count = omega arith;
}

pub returns-clause-text : goal.returns-clause-text
returns-clause-text c =
    let items = flat_map (rom_items c.args.bench.now.bus) (range_with_len 0 ROMS) in
    let all : c.loop-chip.chip ≡ ROMS = omega arith in
    let listed : c.loop-chip.answer.items ≡ c.put.new.answer.items ++ with_commas items =
    c.loop-chip.invariant.text
    ∙ ap (λ n. c.put.new.answer.items ++ flat_map (λ chip. with_commas (rom_items c.args.bench.now.bus chip)) (range_with_len 0 n)) all
    ∙ ap (λ v. c.put.new.answer.items ++ v) (sym (with_commas-flat_map (rom_items c.args.bench.now.bus) (range_with_len 0 ROMS))) in
    c.end_list.ensures.text c.put.new.answer.items items (omega arith) listed
    ∙ ap (λ v. v ++ comma_list items) c.put.ensures.text
