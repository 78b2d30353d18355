use Rattle.std.proofs.Common.{arith}
use Rattle.mcs_codec.proofs.Sizes.{length-state}
use Rattle.mcs_codec.proofs.saving.state_bytes.Goals as goal

pub put_state-requires-clause-room : goal.put_state-requires-clause-room
put_state-requires-clause-room c = omega (arith, length-state c.args.bench.now c.show_state_is_valid.ensures)

pub returns-clause-fits : goal.returns-clause-fits
returns-clause-fits c = omega (arith, length-state c.args.bench.now c.show_state_is_valid.ensures)
