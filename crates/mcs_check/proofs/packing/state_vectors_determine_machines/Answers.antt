use Rattle.mcs_check.proofs.Packed.{equal_machines-if_equal_vectors}
use Rattle.mcs_check.proofs.packing.state_vectors_determine_machines.Goals as goal

pub returns : goal.returns
returns c = equal_machines-if_equal_vectors
