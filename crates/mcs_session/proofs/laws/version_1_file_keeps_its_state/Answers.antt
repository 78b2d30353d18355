use Rattle.mcs_session.proofs.Files.{opening_version_1_keeps_state, failed_open_keeps_version_1_state}
use Rattle.mcs_session.proofs.laws.version_1_file_keeps_its_state.Goals as goal

pub returns-clause-opened : goal.returns-clause-opened
returns-clause-opened g c = λ old new s u honest each opens does. opening_version_1_keeps_state _ _ s u each opens does

pub returns-clause-refused : goal.returns-clause-refused
returns-clause-refused g c = λ old new s fault honest each left. failed_open_keeps_version_1_state fault _ _ s each left
