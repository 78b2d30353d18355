use Rattle.mcs_asm.proofs.ErrorLists.{IsSecondPassReported}
use Rattle.mcs_asm.proofs.all_errors.collect_second_pass_errors.Given as goal

abbrev pub invariant-loop-i : goal.invariant-loop-i
invariant-loop-i l = IsSecondPassReported l.lines l.names.names l.i l.pass_state.at l.pass_state.cells l.errors.items
