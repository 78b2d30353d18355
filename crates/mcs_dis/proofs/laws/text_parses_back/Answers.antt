use Rattle.mcs_dis.proofs.ReadBack.{instruction_text_parses_back}
use Rattle.mcs_dis.proofs.laws.text_parses_back.Goals as goal

pub returns : goal.returns
returns c = instruction_text_parses_back
