use Rattle.std.proofs.Common.{arith}
use Rattle.mcs_ram4002.proofs.PackedNibbles.{valid_chip-from_port}
use Rattle.mcs_ram4002.proofs.Chip.show_state_is_valid.Goals as goal

pub returns : goal.returns
returns c = valid_chip-from_port c.args.self.now (let p = c.get-port.ensures in omega arith)
