use Rattle.mcs_drive.proofs.ReadValueLemmas.{can_be_pulled-if-pulled}
use Rattle.mcs_drive.proofs.laws.pulled_lines_can_be_pulled.Goals as goal

pub returns : goal.returns
returns c = can_be_pulled-if-pulled
