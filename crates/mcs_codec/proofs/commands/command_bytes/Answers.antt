use Rattle.std.proofs.Common.{arith}
use Rattle.mcs_codec.proofs.Sizes.{length-command}
use Rattle.mcs_codec.proofs.commands.command_bytes.Goals as goal

pub put_command-requires : goal.put_command-requires
put_command-requires c = omega (arith, length-command c.args.command.now c.show_command_is_in_range.ensures.range)

pub returns-clause-fits : goal.returns-clause-fits
returns-clause-fits c = omega (arith, length-command c.args.command.now c.show_command_is_in_range.ensures.range)
