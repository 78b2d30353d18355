-- A cycle executes the instruction at the program counter, and changes neither the ROM bytes nor
-- the board.
use Rattle.std.proofs.Common.{◌≡◌, ◌/◌, ℕ, List, Bool, true, false, cond, Option, Some, None, unwrap_or, nat_lt, refl, ap, ◌∙◌, eqb}
use Rattle.mcs_nibble.specs.declared.lines.LineMask.{LineMask}
use Rattle.mcs_nibble.specs.Ports.{latch_value}
use Rattle.mcs_model.specs.declared.regs.Regs.{Regs}
use Rattle.mcs_model.specs.declared.op.Op.{Op}
use Rattle.mcs_model.specs.declared.op.Op.TheVariants.{Src, Wrm, Wmp, Wrr, Wr0, Wr1, Wr2, Wr3}
use Rattle.mcs_model.specs.Boards.{rom_masks}
use Rattle.mcs_model.specs.Bus.{BusState, fetch_of, after_src, chips_of, src_of, has_chip, with_ram, after_ram, with_status, after_status}
use Rattle.mcs_model.specs.Levels.{clock_levels, after_chain_clocks, with_rom_ports_at, after_ram_port, after_rom_port}
use Rattle.mcs_model.specs.Effect.{bus_after, cycle_of, effect, instruction_at}
use Rattle.mcs_sets.specs.Landing.{op_at}

-- the instruction at the program counter depends only on the ROM bytes and the program counter
pub instruction_at-is-op_at : (s : Regs) (m : BusState) → instruction_at s m ≡ op_at m.rom s.pc
unfolding fetch_of
instruction_at-is-op_at s m = refl

pub cycle_of-is-effect : (op : Op) (s : Regs) (m : BusState) → s.owed ≡ 0 → op_at m.rom s.pc ≡ Some op → cycle_of s m ≡ Some (effect op s m)
unfolding cycle_of fetch_of
cycle_of-is-effect op s m free op_in_rom = let not_owed : eqb s.owed 1 ≡ false = ap (λ n. eqb n 1) free in rw (not_owed, op_in_rom) refl

-- holds if two buses have the same ROM and the same board
pub record HaveSameProgram (m n : BusState) : Type 0 where
  pub rom : n.rom ≡ m.rom
  pub board : n.board ≡ m.board

program-unchanged-in-either-case : (b : Bool) (m x y : BusState) → HaveSameProgram m x → HaveSameProgram m y → HaveSameProgram m (cond b x y)
program-unchanged-in-either-case true m x y h k = h
program-unchanged-in-either-case false m x y h k = k

program-unchanged-by-ram-write : (m : BusState) (bank src n : ℕ) → HaveSameProgram m (with_ram m bank src n)
unfolding with_ram
program-unchanged-by-ram-write m bank src n = program-unchanged-in-either-case (has_chip m bank src) m _ m (record { rom = refl; board = refl }) (record { rom = refl; board = refl })

program-unchanged-by-status-write : (m : BusState) (bank high k n : ℕ) → HaveSameProgram m (with_status m bank high k n)
unfolding with_status
program-unchanged-by-status-write m bank high k n = program-unchanged-in-either-case (nat_lt (high / 4) (chips_of m bank)) m _ m (record { rom = refl; board = refl }) (record { rom = refl; board = refl })

program-unchanged-by-src : (m : BusState) (bank byte : ℕ) → HaveSameProgram m (after_src m bank byte)
unfolding after_src
program-unchanged-by-src m bank byte = program-unchanged-in-either-case (nat_lt 0 (chips_of m bank)) m _ _ (record { rom = refl; board = refl }) (record { rom = refl; board = refl })

program-unchanged-by-ram_port-write : (m : BusState) (bank n : ℕ) → HaveSameProgram m (after_ram_port m bank n)
unfolding after_ram_port after_chain_clocks
program-unchanged-by-ram_port-write m bank n = program-unchanged-in-either-case (has_chip m bank (src_of m bank)) m _ m (record { rom = refl; board = refl }) (record { rom = refl; board = refl })

program-unchanged-by-rom_port-write : (m : BusState) (n : ℕ) (o : Option (List LineMask)) → HaveSameProgram m (elim o as (λ _. BusState) [ Some mask ↦ after_chain_clocks (clock_levels m) (with_rom_ports_at m (m.rom_src / 16) (latch_value mask n)) | None ↦ m ])
unfolding after_chain_clocks
program-unchanged-by-rom_port-write m n (Some mask) = record { rom = refl; board = refl }
program-unchanged-by-rom_port-write m n None = record { rom = refl; board = refl }

pub program-unchanged-by-bus_after : (op : Op) (s : Regs) (m : BusState) → HaveSameProgram m (bus_after op s m)
unfolding after_ram after_status after_rom_port
program-unchanged-by-bus_after (Src k) s m = program-unchanged-by-src m s.dcl _
program-unchanged-by-bus_after Wrm s m = program-unchanged-by-ram-write m s.dcl (src_of m s.dcl) s.acc
program-unchanged-by-bus_after Wmp s m = program-unchanged-by-ram_port-write m s.dcl s.acc
program-unchanged-by-bus_after Wrr s m = program-unchanged-by-rom_port-write m s.acc (rom_masks m.board (m.rom_src / 16))
program-unchanged-by-bus_after Wr0 s m = program-unchanged-by-status-write m s.dcl (src_of m s.dcl / 16) 0 s.acc
program-unchanged-by-bus_after Wr1 s m = program-unchanged-by-status-write m s.dcl (src_of m s.dcl / 16) 1 s.acc
program-unchanged-by-bus_after Wr2 s m = program-unchanged-by-status-write m s.dcl (src_of m s.dcl / 16) 2 s.acc
program-unchanged-by-bus_after Wr3 s m = program-unchanged-by-status-write m s.dcl (src_of m s.dcl / 16) 3 s.acc
program-unchanged-by-bus_after _ s m = record { rom = refl; board = refl }

-- the result of a cycle is the effect of the instruction, if no second cycle is pending
pub cycle_result-is-effect : (op : Op) (cpu regs : Regs) (rig m : BusState) (x : Regs × BusState) → x ≡ unwrap_or (cycle_of cpu rig) (cpu, rig) → cpu ≡ regs → rig ≡ m → regs.owed ≡ 0 → op_at m.rom regs.pc ≡ Some op → x ≡ effect op regs m
cycle_result-is-effect op cpu regs rig m x state e f free op_in_rom =
    state ∙ ap (λ (r : Regs). unwrap_or (cycle_of r rig) (r, rig)) e ∙ ap (λ (b : BusState). unwrap_or (cycle_of regs b) (regs, b)) f
    ∙ ap (λ (o : Option (Regs × BusState)). unwrap_or o (regs, m)) (cycle_of-is-effect op regs m free op_in_rom)
