-- The valid states of a bench in version 1.
use Rattle.std.specs.Prelude.{◌≤◌}
use Rattle.mcs_model.specs.declared.limits.TheConstants.{ACCEPTED_COMMANDS}
use Rattle.mcs_model.specs.Bus.{BusState}
use Rattle.mcs_model.specs.Validity.{IsValidRegs, IsInRange, AbsentPartsAreZero, AreBreakpoints}
use Rattle.mcs_version1.specs.Boards.{IsValidBoard1}
use Rattle.mcs_version1.specs.BenchState.{BenchState1}

-- holds if the board, the contents of its chips, its keys and the TEST pin are valid in version 1
pub record IsValidBus1 (s : BusState) : Type 0 where
  pub board : IsValidBoard1 s.board
  pub in_range : IsInRange s
  pub absent : AbsentPartsAreZero s

pub record IsValid1 (s : BenchState1) : Type 0 where
  pub processor : IsValidRegs s.processor
  pub bus : IsValidBus1 s.bus
  pub breakpoints : AreBreakpoints s.breakpoints
  pub seq : s.seq ≤ ACCEPTED_COMMANDS
