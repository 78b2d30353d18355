use Rattle.std.proofs.Common.{arith}
use Rattle.mcs_check.proofs.Memory.{vector_of_machine-if_first_bytes}
use Rattle.mcs_check.proofs.replica.SearchMachine.matches_vector.Goals as goal

pub returns : goal.returns
returns c = λ h. vector_of_machine-if_first_bytes c.args.self.now c.args.layout.now c.args.vector.now _ c.requires (omega arith) (c.matches_first.ensures h)
