use Rattle.std.proofs.Common.{rules}
use Rattle.mcs_board.proofs.rig.Rig.fits.Goals as goal

pub returns-then-not-banks_fit : goal.returns-then-not-banks_fit
returns-then-not-banks_fit c = search rules

pub returns-then-chain_count : goal.returns-then-chain_count
returns-then-chain_count c = search rules
