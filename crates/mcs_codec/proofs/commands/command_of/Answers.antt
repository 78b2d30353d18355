use Rattle.std.proofs.Common.{arith}
use Rattle.mcs_codec.proofs.CommandCodec.{found_command_is_encoded, no_command_encoded_if_none_found}
use Rattle.mcs_codec.proofs.commands.command_of.Goals as goal

pub returns-clause-some : goal.returns-clause-some
returns-clause-some c = found_command_is_encoded c.args.bytes.now c.read_command.result (λ i. omega (arith, c.type_inv.bytes i)) c.read_command.ensures.read

pub returns-clause-none : goal.returns-clause-none
returns-clause-none c = no_command_encoded_if_none_found c.args.bytes.now c.read_command.result c.read_command.ensures.read
