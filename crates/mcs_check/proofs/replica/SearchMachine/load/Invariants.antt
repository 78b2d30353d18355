use Rattle.mcs_check.specs.StateVectors.{KeepsBoardAndInputs}
use Rattle.mcs_check.proofs.replica.SearchMachine.load.Given as goal

abbrev pub invariant-loop-i : goal.invariant-loop-i
invariant-loop-i l = KeepsBoardAndInputs l.fn.self.1 l.self.1
