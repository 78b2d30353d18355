use Rattle.std.proofs.lemmas.Grind.{common_steps}
use Rattle.std.proofs.Common.{arith}
use Rattle.mcs_wasm.proofs.disks.snapshot_into.Goals as goal

pub returns : goal.returns
returns c = grind (arith, common_steps)
