use Rattle.mcs_session.proofs.Files.{represented_state_is_unique}
use Rattle.mcs_session.proofs.laws.file_represents_one_state.Goals as goal

pub returns : goal.returns
returns c = represented_state_is_unique
