use Rattle.mcs_drive.proofs.PortChoiceLemmas.{port_of-is-some-port_choice}
use Rattle.mcs_drive.proofs.laws.port_choices_cover_reads.Goals as goal

pub returns : goal.returns
returns c = port_of-is-some-port_choice
