-- The flat state of a bench: everything that a session stores, as numbers and lists.
use Rattle.std.specs.Prelude.{ℕ, List, [], replicate}
use Rattle.mcs_model.specs.declared.regs.Regs.{Regs}
use Rattle.mcs_model.specs.Bus.{BusState, zero_bus}

pub record BenchState : Type 0 where
  -- the registers of the 4004
  pub processor : Regs
  -- the board, the contents of its chips, its keys and the TEST pin
  pub bus : BusState
  -- the breakpoint addresses, in ascending order
  pub breakpoints : List ℕ
  -- the watched RAM nibbles as indices (`ram_index`), in ascending order
  pub watches : List ℕ
  -- the number of accepted commands
  pub seq : ℕ

-- the power-on state of the registers: all 0 (4004 data sheet, reset)
abbrev pub new_regs : Regs
new_regs = record {
  acc = 0;
  cy = 0;
  r = replicate 16 0;
  pc = 0;
  ret = replicate 3 0;
  dcl = 0;
  owed = 0;
}

-- a new bench: the board is empty, TEST is 1, and everything else is 0 or empty (defined by
-- Fethsaim, not by Intel)
abbrev pub new_bench_state : BenchState
new_bench_state = record {
  processor = new_regs;
  bus = record zero_bus { test = 1 };
  breakpoints = [];
  watches = [];
  seq = 0;
}
