use Rattle.std.proofs.Common.{◌∙◌, ◌++◌, [], string_bytes, ap}
use Rattle.std.specs.List.{flat_map}
use Rattle.std.specs.Option.{option_map_or}
use Rattle.mcs_model.specs.declared.board.BoardParts.{BoardParts}
use Rattle.mcs_wiring.specs.BoardText.{chain_lines, matrix_lines, lamp_lines}
use Rattle.mcs_model.specs.TextLines.{text_of}
use Rattle.mcs_wiring.proofs.PartTexts.{board_text_from_pieces}
use Rattle.mcs_wiring.proofs.writing.board_text.Goals as goal

pub returns : goal.returns
returns c =
    let equal_boards = c.parts-parts.ensures.same in
    let chains = c.as_slice.ensures.value ∙ ap (λ (b : BoardParts). b.chains.items) equal_boards in
    let lamps = c.as_slice-2.ensures.value ∙ ap (λ (b : BoardParts). b.lamps.items) equal_boards in
    board_text_from_pieces c.args.board.now _ _ _ _ _ _ c.new-out.ensures.bytes c.in_ok-push_roms.ensures c.in_ok-push_rams.ensures
    (c.in_ok-push_chains.ensures ∙ ap (λ cs. string_bytes c.push_rams.new.out ++ flat_map (λ x. text_of (chain_lines x)) cs) chains)
    (c.in_ok-push_keys.ensures ∙ ap (λ (b : BoardParts). string_bytes c.push_chains.new.out ++ text_of (option_map_or matrix_lines b.keys [])) equal_boards)
    (c.in_ok-push_lamps.ensures ∙ ap (λ ls. string_bytes c.push_keys.new.out ++ flat_map (λ x. text_of (lamp_lines x)) ls) lamps)
