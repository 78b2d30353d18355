use Rattle.mcs_trace.proofs.Parts.{begun_instructions-add_up}
use Rattle.mcs_trace.proofs.laws.instructions_add_up.Goals as goal

pub returns : goal.returns
returns c = λ stops m n s e. begun_instructions-add_up stops m n s e
