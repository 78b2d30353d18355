-- If each part of a state has its value in a new bench, the state is that of a new bench.
use Rattle.std.proofs.Common.{◌≡◌, ℕ, List, [], replicate, refl}
use Rattle.arrayvec.specs.ArrayVec.{ArrayVec}
use Rattle.mcs_model.specs.declared.board.BoardParts.{BoardParts}
use Rattle.mcs_model.specs.Boards.{empty_parts}
use Rattle.mcs_model.specs.Bus.{zero_bus}
use Rattle.mcs_model.specs.BenchState.{new_bench_state, new_regs}
use Rattle.mcs_bench.specs.States.{bits_of_chains}

pub state-of-new-bench : (b : BoardParts) (rom ram status ram_ports rom_ports : List ℕ) (chains : ArrayVec (ArrayVec ℕ)) (keys breakpoints watches : ArrayVec ℕ) → b ≡ empty_parts → rom ≡ replicate 4096 0 → ram ≡ replicate 2048 0 → status ≡ replicate 512 0 → ram_ports ≡ replicate 32 0 → rom_ports ≡ replicate 16 0 → chains.items ≡ [] → keys.items ≡ [] → breakpoints.items ≡ [] → watches.items ≡ []
    → record {
      processor = new_regs;
      bus = record { board = b; rom = rom; ram = ram; status = status; ram_ports = ram_ports; rom_ports = rom_ports; rom_src = 0; ram_src = replicate 8 0; chains = bits_of_chains chains.items; keys = keys.items; test = 1 };
      breakpoints = breakpoints.items;
      watches = watches.items;
      seq = 0;
    } ≡ new_bench_state
unfolding zero_bus
state-of-new-bench b rom ram status ram_ports rom_ports chains keys breakpoints watches e0 e1 e2 e3 e4 e5 e6 e7 e8 e9 = rw (e0, e1, e2, e3, e4, e5, e6, e7, e8, e9) refl
