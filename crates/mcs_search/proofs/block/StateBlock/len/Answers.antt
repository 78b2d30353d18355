use Rattle.std.proofs.Common.{sym, ap, ◌∙◌, length}
use Rattle.mcs_search.specs.StateStores.{StateStore}
use Rattle.mcs_search.proofs.StateLists.{length-states_in_bytes}
use Rattle.mcs_search.proofs.block.StateBlock.len.Goals as goal

pub returns : goal.returns
returns c = let f = c.self.inside in sym (length-states_in_bytes f.width f.len f.bytes.items) ∙ ap (λ (s : StateStore). length s.states) c.self.view_is
