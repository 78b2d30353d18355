-- The flat state (`BenchState`) that a `Flat` holds as plain numbers. (Defined by Fethsaim, not by
-- Intel.)
use Rattle.std.specs.Prelude.{ℕ, List, map}
use Rattle.arrayvec.specs.ArrayVec.{ArrayVec}
use Rattle.mcs_model.specs.BenchState.{BenchState}
use Rattle.mcs_bench.specs.declared.flat.Flat.{Flat}

-- the bits of each chain
abbrev pub bits_of_chains : List (ArrayVec ℕ) → List (List ℕ)
bits_of_chains chains = map (λ chain. chain.items) chains

abbrev pub state_of : Flat → BenchState
state_of f = record {
  processor = record { acc = f.acc; cy = f.cy; r = f.r; pc = f.pc; ret = f.ret; dcl = f.dcl; owed = f.owed };
  bus = record {
    board = f.board;
    rom = f.rom;
    ram = f.ram;
    status = f.status;
    ram_ports = f.ram_ports;
    rom_ports = f.rom_ports;
    rom_src = f.rom_src;
    ram_src = f.ram_src;
    chains = bits_of_chains f.chains.items;
    keys = f.keys.items;
    test = f.test;
  };
  breakpoints = f.breakpoints.items;
  watches = f.watches.items;
  seq = f.seq;
}
