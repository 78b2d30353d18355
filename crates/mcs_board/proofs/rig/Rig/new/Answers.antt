use Rattle.mcs_board.proofs.LifecycleLemmas.{matches_board-of_new_rig, state-of_new_rig}
use Rattle.mcs_board.proofs.rig.Rig.new.Goals as goal

pub invariant_of-result-2 : goal.invariant_of-result-2
invariant_of-result-2 g c = rw (c.of.ensures, c.empty.ensures, c.in_ok-empty_rom_sockets.ensures, c.in_ok-zeroed_program.ensures, c.in_ok-empty_banks.ensures, c.in_ok-empty_chains.ensures) (matches_board-of_new_rig g.row.ROMS g.row.BANKS g.row.CHAINS)

pub returns : goal.returns
returns g c = rw (c.of.ensures, c.empty.ensures, c.in_ok-empty_rom_sockets.ensures, c.in_ok-zeroed_program.ensures, c.in_ok-empty_banks.ensures, c.in_ok-empty_chains.ensures) (state-of_new_rig g.row.ROMS g.row.BANKS g.row.CHAINS)
