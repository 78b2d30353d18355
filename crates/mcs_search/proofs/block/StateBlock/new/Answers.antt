use Rattle.std.proofs.Common.{refl}
use Rattle.mcs_search.specs.StateStores.{states_in_bytes}
use Rattle.mcs_search.proofs.block.StateBlock.new.Goals as goal

pub returns : goal.returns
unfolding states_in_bytes
returns c = refl
