-- The flat state of a bench in version 1, which has no watches.
use Rattle.std.specs.Prelude.{ℕ, List}
use Rattle.mcs_model.specs.declared.regs.Regs.{Regs}
use Rattle.mcs_model.specs.Bus.{BusState}

pub record BenchState1 : Type 0 where
  -- the registers of the 4004
  pub processor : Regs
  -- the board, the contents of its chips, its keys and the TEST pin
  pub bus : BusState
  -- the breakpoint addresses, in ascending order
  pub breakpoints : List ℕ
  -- the number of accepted commands
  pub seq : ℕ
