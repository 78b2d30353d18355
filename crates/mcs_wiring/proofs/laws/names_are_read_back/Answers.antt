use Rattle.mcs_wiring.proofs.NameLaws.{line_name_parses_back, port_text_parses_back}
use Rattle.mcs_wiring.proofs.laws.names_are_read_back.Goals as goal

pub returns-clause-lines : goal.returns-clause-lines
returns-clause-lines c = line_name_parses_back

pub returns-clause-ports : goal.returns-clause-ports
returns-clause-ports c = port_text_parses_back
