use Rattle.mcs_asm.proofs.ErrorLists.{IsFirstPassReported}
use Rattle.mcs_asm.proofs.all_errors.collect_first_pass_errors.Given as goal

abbrev pub invariant-loop-i : goal.invariant-loop-i
invariant-loop-i l = IsFirstPassReported l.lines l.i l.names l.errors.items
