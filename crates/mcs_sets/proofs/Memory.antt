-- A cycle changes neither the board nor the ROM bytes. If all RAM values are nibbles before a
-- cycle, they are also nibbles after the cycle.
use Rattle.std.proofs.Common.{◌≡◌, ◌<◌, ◌/◌, ℕ, List, Bool, true, false, cond, Option, Some, None, unwrap_or, nat_lt, eqb}
use Rattle.std.proofs.lemmas.Bool.{and_parts, ltb-true}
use Rattle.std.proofs.lemmas.List.Elements.{All-set}
use Rattle.mcs_nibble.specs.declared.lines.LineMask.{LineMask}
use Rattle.mcs_nibble.specs.Ports.{latch_value}
use Rattle.mcs_model.specs.declared.board.BoardParts.{BoardParts}
use Rattle.mcs_model.specs.declared.regs.Regs.{Regs}
use Rattle.mcs_model.specs.declared.op.Op.{Op}
use Rattle.mcs_model.specs.declared.op.Op.TheVariants.{Src, Wrm, Wmp, Wrr, Wr0, Wr1, Wr2, Wr3}
use Rattle.mcs_model.specs.Boards.{rom_masks}
use Rattle.mcs_model.specs.Bus.{BusState, after_src, chips_of, src_of, has_chip, with_ram, after_ram, with_status, after_status}
use Rattle.mcs_model.specs.Levels.{clock_levels, after_chain_clocks, with_rom_ports_at, after_ram_port, after_rom_port}
use Rattle.mcs_model.specs.Effect.{bus_after, cycle_of, effect, instruction_at}
use Rattle.mcs_model.specs.Running.{Machine}
use Rattle.mcs_drive.specs.TrackedMachine.{TrackedMachine, machine_in, cycled, no_observer}
use Rattle.mcs_sets.specs.Entries.{contains}
use Rattle.mcs_sets.specs.Closure.{IsBusOf}

-- each member of a set of nibbles is below 16
pub member-below-16 : (set n : ℕ) → contains set n ≡ true → n < 16
member-below-16 set n h = ltb-true n 16 (and_parts (nat_lt n 16) _ h).0

module _ (board : BoardParts) (rom : List ℕ) where
  bus-valid-in-either-case : (b : Bool) (m n : BusState) → IsBusOf board rom m → IsBusOf board rom n → IsBusOf board rom (cond b m n)
  bus-valid-in-either-case true m n h k = h
  bus-valid-in-either-case false m n h k = k

  bus-valid-after-ram-write : (m : BusState) (bank src n : ℕ) → n < 16 → IsBusOf board rom m → IsBusOf board rom (with_ram m bank src n)
  unfolding with_ram
  bus-valid-after-ram-write m bank src n small h = bus-valid-in-either-case (has_chip m bank src) _ m (record { board = h.board; rom = h.rom; ram = All-set (λ n. n < 16) m.ram _ n small h.ram; status = h.status; test = h.test }) h

  bus-valid-after-status-write : (m : BusState) (bank high k n : ℕ) → n < 16 → IsBusOf board rom m → IsBusOf board rom (with_status m bank high k n)
  unfolding with_status
  bus-valid-after-status-write m bank high k n small h = bus-valid-in-either-case (nat_lt (high / 4) (chips_of m bank)) _ m (record { board = h.board; rom = h.rom; ram = h.ram; status = All-set (λ n. n < 16) m.status _ n small h.status; test = h.test }) h

  bus-valid-after-src : (m : BusState) (bank byte : ℕ) → IsBusOf board rom m → IsBusOf board rom (after_src m bank byte)
  unfolding after_src
  bus-valid-after-src m bank byte h = bus-valid-in-either-case (nat_lt 0 (chips_of m bank)) _ _ (record { board = h.board; rom = h.rom; ram = h.ram; status = h.status; test = h.test }) (record { board = h.board; rom = h.rom; ram = h.ram; status = h.status; test = h.test })

  bus-valid-after-ram_port-write : (m : BusState) (bank n : ℕ) → IsBusOf board rom m → IsBusOf board rom (after_ram_port m bank n)
  unfolding after_ram_port after_chain_clocks
  bus-valid-after-ram_port-write m bank n h = bus-valid-in-either-case (has_chip m bank (src_of m bank)) _ m (record { board = h.board; rom = h.rom; ram = h.ram; status = h.status; test = h.test }) h

  bus-valid-after-rom_port-write : (m : BusState) (n : ℕ) (o : Option (List LineMask)) → IsBusOf board rom m → IsBusOf board rom (elim o as (λ _. BusState) [ Some mask ↦ after_chain_clocks (clock_levels m) (with_rom_ports_at m (m.rom_src / 16) (latch_value mask n)) | None ↦ m ])
  unfolding after_chain_clocks
  bus-valid-after-rom_port-write m n (Some mask) h = record { board = h.board; rom = h.rom; ram = h.ram; status = h.status; test = h.test }
  bus-valid-after-rom_port-write m n None h = h

  bus-valid-after-instruction : (op : Op) (s : Regs) (m : BusState) → s.acc < 16 → IsBusOf board rom m → IsBusOf board rom (bus_after op s m)
  unfolding after_ram after_status after_rom_port
  bus-valid-after-instruction (Src k) s m small h = bus-valid-after-src m s.dcl _ h
  bus-valid-after-instruction Wrm s m small h = bus-valid-after-ram-write m s.dcl (src_of m s.dcl) s.acc small h
  bus-valid-after-instruction Wmp s m small h = bus-valid-after-ram_port-write m s.dcl s.acc h
  bus-valid-after-instruction Wrr s m small h = bus-valid-after-rom_port-write m s.acc (rom_masks m.board (m.rom_src / 16)) h
  bus-valid-after-instruction Wr0 s m small h = bus-valid-after-status-write m s.dcl (src_of m s.dcl / 16) 0 s.acc small h
  bus-valid-after-instruction Wr1 s m small h = bus-valid-after-status-write m s.dcl (src_of m s.dcl / 16) 1 s.acc small h
  bus-valid-after-instruction Wr2 s m small h = bus-valid-after-status-write m s.dcl (src_of m s.dcl / 16) 2 s.acc small h
  bus-valid-after-instruction Wr3 s m small h = bus-valid-after-status-write m s.dcl (src_of m s.dcl / 16) 3 s.acc small h
  bus-valid-after-instruction _ s m small h = h

  bus-valid-after-cycle-in-each-case : (s : Machine) (b : Bool) (o : Option Op) → s.0.acc < 16 → IsBusOf board rom s.1 → IsBusOf board rom (unwrap_or (cond b (Some (record s.0 { owed = 0 }, s.1)) (elim o as (λ _. Option (Regs × BusState)) [ Some op ↦ Some (effect op s.0 s.1) | None ↦ None ])) s).1
  bus-valid-after-cycle-in-each-case s true o small h = h
  bus-valid-after-cycle-in-each-case s false None small h = h
  bus-valid-after-cycle-in-each-case s false (Some op) small h = bus-valid-after-instruction op s.0 s.1 small h

  pub bus-valid-after-cycle : (s : TrackedMachine) → s.0.acc < 16 → IsBusOf board rom s.1 → IsBusOf board rom (cycled no_observer s).1
  unfolding cycle_of
  bus-valid-after-cycle s small h = bus-valid-after-cycle-in-each-case (machine_in s) (eqb s.0.owed 1) (instruction_at s.0 s.1) small h
