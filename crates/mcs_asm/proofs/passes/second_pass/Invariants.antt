use Rattle.mcs_asm.proofs.PassLists.{IsSecondPassBefore}
use Rattle.mcs_asm.proofs.passes.second_pass.Given as goal

abbrev pub invariant-loop-i : goal.invariant-loop-i
invariant-loop-i l = IsSecondPassBefore l.lines l.fn.names.names l.i l.pass_state.at l.pass_state.cells l.pass_state.spans.items
