use Rattle.mcs_source.specs.Assembly.{assembly_of_text}
use Rattle.mcs_shell.proofs.LoadCommands.{load_command_of_assembled_image}
use Rattle.mcs_shell.proofs.texts.read_program.Goals as goal

pub returns-in-Ok : goal.returns-in-Ok
returns-in-Ok c = load_command_of_assembled_image c.in-Ok.image (assembly_of_text c.args.text.now) c.in-Ok.ensures
