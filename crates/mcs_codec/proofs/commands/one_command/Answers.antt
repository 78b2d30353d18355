use Rattle.mcs_codec.proofs.CommandCodec.{encoded_command_is_unique}
use Rattle.mcs_codec.proofs.commands.one_command.Goals as goal

pub returns : goal.returns
returns c = encoded_command_is_unique
