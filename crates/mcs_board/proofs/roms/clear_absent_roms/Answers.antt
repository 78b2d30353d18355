use Rattle.std.proofs.Common.{◌≡◌, ◌∙◌, ℕ, ◌/◌, ◌<◌, List, length, get_or, is_some, arith, if◌then◌else◌}
use Rattle.mcs_nibble.proofs.TableLemmas.{table_of-unique}
use Rattle.mcs_model.specs.declared.board.BoardParts.{BoardParts}
use Rattle.mcs_model.specs.Boards.{rom_masks}
use Rattle.mcs_model.specs.ChipWrites.{rom_of_board}
use Rattle.mcs_board.proofs.roms.clear_absent_roms.Goals as goal

rom_of_board-from_each_byte : (b : BoardParts) (old new : List ℕ) → length new ≡ 4096 → ((k : ℕ) → k < 4096 → get_or new k 0 ≡ (if is_some (rom_masks b (k / 256)) then get_or old k 0 else 0)) → new ≡ rom_of_board b old
unfolding rom_of_board
rom_of_board-from_each_byte b old new l h = table_of-unique 4096 (λ k. if is_some (rom_masks b (k / 256)) then get_or old k 0 else 0) new 0 l h

pub returns : goal.returns
returns c =
    let program_length : length c.loop-at.program.items ≡ 4096 = c.loop-at.invariant.len ∙ c.requires in
    rom_of_board-from_each_byte c.args.board.now c.args.program.now.items c.loop-at.program.items program_length (λ k h. c.loop-at.invariant.done k (let r = c.requires in omega arith))
