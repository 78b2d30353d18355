-- The parts of a machine that never change in a search: the board, the ROM bytes, the keys and
-- TEST.
use Rattle.std.proofs.Common.{◌≡◌, ℕ, ◌/◌, List, Bool, true, false, cond, Option, Some, None, unwrap_or, nat_lt, refl, ◌∙◌, ap, eqb}
use Rattle.mcs_nibble.specs.declared.lines.LineMask.{LineMask}
use Rattle.mcs_nibble.specs.Ports.{latch_value}
use Rattle.mcs_model.specs.declared.regs.Regs.{Regs}
use Rattle.mcs_model.specs.declared.op.Op.{Op}
use Rattle.mcs_model.specs.declared.op.Op.TheVariants.{Src, Wrm, Wmp, Wrr, Wr0, Wr1, Wr2, Wr3}
use Rattle.mcs_model.specs.Boards.{rom_masks}
use Rattle.mcs_model.specs.Bus.{BusState, after_src, chips_of, src_of, has_chip, with_ram, after_ram, with_status, after_status}
use Rattle.mcs_model.specs.ChipWrites.{with_ram_latch, with_rom_latch, with_ram_src}
use Rattle.mcs_model.specs.Levels.{clock_levels, after_chain_clocks, with_rom_ports_at, after_ram_port, after_rom_port}
use Rattle.mcs_model.specs.Effect.{bus_after, cycle_of, effect, instruction_at}
use Rattle.mcs_model.specs.Running.{Machine}
use Rattle.mcs_drive.specs.TrackedMachine.{Observer, TrackedMachine, machine_in, cycled}
use Rattle.mcs_check.specs.StateVectors.{KeepsBoardAndInputs}

pub keeps-refl : (s : BusState) → KeepsBoardAndInputs s s
keeps-refl s = record { board = refl; rom = refl; keys = refl; test = refl }

pub keeps-trans : (s t u : BusState) → KeepsBoardAndInputs s t → KeepsBoardAndInputs t u → KeepsBoardAndInputs s u
keeps-trans s t u h k = record { board = k.board ∙ h.board; rom = k.rom ∙ h.rom; keys = k.keys ∙ h.keys; test = k.test ∙ h.test }

cond-keeps : (b : Bool) (s m n : BusState) → KeepsBoardAndInputs s m → KeepsBoardAndInputs s n → KeepsBoardAndInputs s (cond b m n)
cond-keeps true s m n h k = h
cond-keeps false s m n h k = k

-- ---- setting a cell

pub with_ram-keeps : (s : BusState) (bank src n : ℕ) → KeepsBoardAndInputs s (with_ram s bank src n)
unfolding with_ram
with_ram-keeps s bank src n = cond-keeps (has_chip s bank src) s _ s (record { board = refl; rom = refl; keys = refl; test = refl }) (keeps-refl s)

pub with_status-keeps : (s : BusState) (bank high k n : ℕ) → KeepsBoardAndInputs s (with_status s bank high k n)
unfolding with_status
with_status-keeps s bank high k n = cond-keeps (nat_lt (high / 4) (chips_of s bank)) s _ s (record { board = refl; rom = refl; keys = refl; test = refl }) (keeps-refl s)

pub with_ram_latch-keeps : (s : BusState) (bank chip n : ℕ) → KeepsBoardAndInputs s (with_ram_latch s bank chip n)
unfolding with_ram_latch
with_ram_latch-keeps s bank chip n = cond-keeps (nat_lt chip (chips_of s bank)) s _ s (record { board = refl; rom = refl; keys = refl; test = refl }) (keeps-refl s)

pub with_ram_src-keeps : (s : BusState) (bank n : ℕ) → KeepsBoardAndInputs s (with_ram_src s bank n)
unfolding with_ram_src
with_ram_src-keeps s bank n = cond-keeps (nat_lt 0 (chips_of s bank)) s _ s (record { board = refl; rom = refl; keys = refl; test = refl }) (keeps-refl s)

rom_latch-keeps_by_cases : (s : BusState) (chip n : ℕ) (o : Option (List LineMask)) → KeepsBoardAndInputs s (elim o as (λ _. BusState) [ Some mask ↦ with_rom_ports_at s chip (latch_value mask n) | None ↦ s ])
rom_latch-keeps_by_cases s chip n (Some mask) = record { board = refl; rom = refl; keys = refl; test = refl }
rom_latch-keeps_by_cases s chip n None = keeps-refl s

pub with_rom_latch-keeps : (s : BusState) (chip n : ℕ) → KeepsBoardAndInputs s (with_rom_latch s chip n)
unfolding with_rom_latch
with_rom_latch-keeps s chip n = rom_latch-keeps_by_cases s chip n (rom_masks s.board chip)

-- ---- a cycle

chain_clocks-keep : (before : List ℕ) (s t : BusState) → KeepsBoardAndInputs s t → KeepsBoardAndInputs s (after_chain_clocks before t)
unfolding after_chain_clocks
chain_clocks-keep before s t h = record { board = h.board; rom = h.rom; keys = h.keys; test = h.test }

rom_port-keeps_by_cases : (m : BusState) (n : ℕ) (o : Option (List LineMask)) → KeepsBoardAndInputs m (elim o as (λ _. BusState) [ Some mask ↦ after_chain_clocks (clock_levels m) (with_rom_ports_at m (m.rom_src / 16) (latch_value mask n)) | None ↦ m ])
rom_port-keeps_by_cases m n (Some mask) = chain_clocks-keep (clock_levels m) m _ (record { board = refl; rom = refl; keys = refl; test = refl })
rom_port-keeps_by_cases m n None = keeps-refl m

after_src-keeps : (m : BusState) (bank byte : ℕ) → KeepsBoardAndInputs m (after_src m bank byte)
unfolding after_src
after_src-keeps m bank byte = cond-keeps (nat_lt 0 (chips_of m bank)) m _ _ (record { board = refl; rom = refl; keys = refl; test = refl }) (record { board = refl; rom = refl; keys = refl; test = refl })

after_ram_port-keeps : (m : BusState) (bank n : ℕ) → KeepsBoardAndInputs m (after_ram_port m bank n)
unfolding after_ram_port
after_ram_port-keeps m bank n = cond-keeps (has_chip m bank (src_of m bank)) m _ m (chain_clocks-keep (clock_levels m) m _ (record { board = refl; rom = refl; keys = refl; test = refl })) (keeps-refl m)

bus_after-keeps : (op : Op) (s : Regs) (m : BusState) → KeepsBoardAndInputs m (bus_after op s m)
unfolding after_ram after_status after_rom_port
bus_after-keeps (Src k) s m = after_src-keeps m s.dcl _
bus_after-keeps Wrm s m = with_ram-keeps m s.dcl (src_of m s.dcl) s.acc
bus_after-keeps Wmp s m = after_ram_port-keeps m s.dcl s.acc
bus_after-keeps Wrr s m = rom_port-keeps_by_cases m s.acc (rom_masks m.board (m.rom_src / 16))
bus_after-keeps Wr0 s m = with_status-keeps m s.dcl (src_of m s.dcl / 16) 0 s.acc
bus_after-keeps Wr1 s m = with_status-keeps m s.dcl (src_of m s.dcl / 16) 1 s.acc
bus_after-keeps Wr2 s m = with_status-keeps m s.dcl (src_of m s.dcl / 16) 2 s.acc
bus_after-keeps Wr3 s m = with_status-keeps m s.dcl (src_of m s.dcl / 16) 3 s.acc
bus_after-keeps _ s m = keeps-refl m

cycle-keeps_by_cases : (s : Machine) (b : Bool) (o : Option Op) → KeepsBoardAndInputs s.1 (unwrap_or (cond b (Some (record s.0 { owed = 0 }, s.1)) (elim o as (λ _. Option (Regs × BusState)) [ Some op ↦ Some (effect op s.0 s.1) | None ↦ None ])) s).1
cycle-keeps_by_cases s true o = keeps-refl s.1
cycle-keeps_by_cases s false None = keeps-refl s.1
cycle-keeps_by_cases s false (Some op) = bus_after-keeps op s.0 s.1

pub cycle-keeps : (w : Observer) (s : TrackedMachine) → KeepsBoardAndInputs s.1 (cycled w s).1
unfolding cycle_of
cycle-keeps w s = cycle-keeps_by_cases (machine_in s) (eqb s.0.owed 1) (instruction_at s.0 s.1)

-- if `KeepsBoardAndInputs` holds for `r` and `u`, it also holds for buses `s` and `t` that equal
-- `r` and `u`
pub keeps-same : (r s t u : BusState) → r ≡ s → t ≡ u → KeepsBoardAndInputs r u → KeepsBoardAndInputs s t
keeps-same r s t u e f h = record { board = ap (λ (b : BusState). b.board) f ∙ h.board ∙ ap (λ (b : BusState). b.board) e; rom = ap (λ (b : BusState). b.rom) f ∙ h.rom ∙ ap (λ (b : BusState). b.rom) e; keys = ap (λ (b : BusState). b.keys) f ∙ h.keys ∙ ap (λ (b : BusState). b.keys) e; test = ap (λ (b : BusState). b.test) f ∙ h.test ∙ ap (λ (b : BusState). b.test) e }
