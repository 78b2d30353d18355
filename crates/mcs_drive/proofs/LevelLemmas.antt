-- Parts of a cycle that do not depend on the input levels.
use Rattle.std.proofs.Common.{◌≡◌, ℕ, ◌%◌, ◌/◌, ◌<◌, Bool, true, false, not, cond, ◌&&◌, List, [], Option, Some, None, unwrap_or, slice_set, slice_index, slice_index_or, nat_lt, refl, ap, ◌∙◌, eqb}
use Rattle.mcs_model.specs.declared.regs.Regs.{Regs}
use Rattle.mcs_model.specs.declared.op.Op.{Op}
use Rattle.mcs_model.specs.declared.op.Op.TheVariants.{Jcn, Src, Wrm, Wmp, Wrr, Wr0, Wr1, Wr2, Wr3, Rdr}
use Rattle.mcs_model.specs.Bus.{BusState, fetch_of, after_src, chips_of, src_of, has_chip, ram_of, with_ram, after_ram, status_of, with_status, after_status, ram_index, ram_port_index, status_index}
use Rattle.mcs_model.specs.Effect.{is_taken, with_pc_on_page, after_fetch, registers_after, bus_after, cycle_of, effect, instruction_at}
use Rattle.mcs_model.specs.Running.{Machine}
use Rattle.std.proofs.lemmas.Bool.{and_parts, not-true}
use Rattle.mcs_nibble.specs.declared.lines.LineMask.{LineMask}
use Rattle.mcs_nibble.specs.Ports.{latch_value}
use Rattle.mcs_nibble.proofs.TableLemmas.{table_of-equal_functions}
use Rattle.mcs_model.specs.Registers.{pair_of}
use Rattle.mcs_model.specs.declared.board.Line.{Line}
use Rattle.mcs_model.specs.declared.board.Line.TheVariants.{Rom, Ram, Chain}
use Rattle.mcs_model.specs.Boards.{board_fault_of, is_output_line, is_on_board, chain_part, chain_count, rom_masks}
use Rattle.mcs_model.specs.Levels.{level, latch_of, clock_levels, chain_bits_after_clock, after_chain_clocks, with_ram_ports_at, with_rom_ports_at, after_ram_port, after_rom_port}
use Rattle.mcs_drive.proofs.ChainOutputs.{clock_line-is_output, data_line-is_output}
use Rattle.mcs_drive.specs.DrivenRuns.{Levels, with_levels, cycled}
use Rattle.mcs_drive.specs.InputReads.{reads_input, next_reads_input}

-- a bus with its keys and TEST set to the input levels `l`
abbrev pub at_levels : Levels → BusState → BusState
at_levels l m = record m { keys = l.keys; test = l.test }

-- ---- the registers

pub is_taken-ignores-unread-test : (c : ℕ) (s : Regs) (t u : ℕ) → eqb (c % 2) 1 ≡ false → is_taken c s t ≡ is_taken c s u
is_taken-ignores-unread-test c s t u e = rw e refl

registers_after-at_levels : (l : Levels) (op : Op) (s : Regs) (m : BusState) → reads_input (Some op) ≡ false → registers_after op s (at_levels l m) ≡ registers_after op s m
unfolding fetch_of ram_of status_of
registers_after-at_levels l (Jcn c w) s m e = ap (λ b. cond b (with_pc_on_page s w) s) (is_taken-ignores-unread-test c s l.test m.test e)
registers_after-at_levels l Rdr s m e = absurd (cc)
registers_after-at_levels l _ s m e = refl

-- ---- the bus

-- the level of an output line does not depend on the input levels
level-at_levels : (l : Levels) (m : BusState) (line : Line) → is_output_line m.board line ≡ true → level (at_levels l m) line ≡ level m line
unfolding level latch_of
level-at_levels l m (Rom chip k) h = let no = not-true _ (and_parts (is_on_board m.board (Rom chip k)) _ h).1 in rw no refl
level-at_levels l m (Ram bank chip k) h = refl
level-at_levels l m (Chain n i) h = refl

clock_levels-at_levels : (l : Levels) (m : BusState) → board_fault_of m.board ≡ None → clock_levels (at_levels l m) ≡ clock_levels m
unfolding clock_levels
clock_levels-at_levels l m v = table_of-equal_functions (chain_count m.board) _ _ (λ i h. level-at_levels l m (chain_part m.board i).clock (clock_line-is_output m.board i v h))

chain_bits_after_clock-at_levels : (l : Levels) (m : BusState) (i was : ℕ) (bits : List ℕ) → board_fault_of m.board ≡ None → i < chain_count m.board → chain_bits_after_clock (at_levels l m) i was bits ≡ chain_bits_after_clock m i was bits
unfolding chain_bits_after_clock
chain_bits_after_clock-at_levels l m i was bits v h =
    let clock = level-at_levels l m (chain_part m.board i).clock (clock_line-is_output m.board i v h) in
    let datum = level-at_levels l m (chain_part m.board i).data_in (data_line-is_output m.board i v h) in
    rw (clock, datum) refl

after_chain_clocks-at_levels : (l : Levels) (before : List ℕ) (m : BusState) → board_fault_of m.board ≡ None → after_chain_clocks before (at_levels l m) ≡ at_levels l (after_chain_clocks before m)
unfolding after_chain_clocks
after_chain_clocks-at_levels l before m v =
    ap (λ (cs : List (List ℕ)). record (at_levels l m) { chains = cs })
    (table_of-equal_functions (chain_count m.board) _ _ (λ i h. chain_bits_after_clock-at_levels l m i (slice_index before i) (slice_index_or m.chains i []) v h))

cond-at_levels : (l : Levels) (b : Bool) (m n : BusState) → cond b (at_levels l m) (at_levels l n) ≡ at_levels l (cond b m n)
cond-at_levels l true m n = refl
cond-at_levels l false m n = refl

after_src-at_levels : (l : Levels) (m : BusState) (bank byte : ℕ) → after_src (at_levels l m) bank byte ≡ at_levels l (after_src m bank byte)
unfolding after_src
after_src-at_levels l m bank byte = cond-at_levels l (nat_lt 0 (chips_of m bank)) (record m { rom_src = byte; ram_src = slice_set m.ram_src bank byte }) (record m { rom_src = byte })

after_ram-at_levels : (l : Levels) (m : BusState) (bank n : ℕ) → after_ram (at_levels l m) bank n ≡ at_levels l (after_ram m bank n)
unfolding after_ram with_ram
after_ram-at_levels l m bank n = cond-at_levels l (has_chip m bank (src_of m bank)) (record m { ram = slice_set m.ram (ram_index bank (src_of m bank)) n }) m

after_status-at_levels : (l : Levels) (m : BusState) (bank k n : ℕ) → after_status (at_levels l m) bank k n ≡ at_levels l (after_status m bank k n)
unfolding after_status with_status
after_status-at_levels l m bank k n = cond-at_levels l (nat_lt (src_of m bank / 16 / 4) (chips_of m bank)) (record m { status = slice_set m.status (status_index bank (src_of m bank / 16) k) n }) m

after_ram_port-at_levels : (l : Levels) (m : BusState) (bank n : ℕ) → board_fault_of m.board ≡ None → after_ram_port (at_levels l m) bank n ≡ at_levels l (after_ram_port m bank n)
unfolding after_ram_port
after_ram_port-at_levels l m bank n v =
    let set = with_ram_ports_at m (ram_port_index bank (src_of m bank / 64)) n in
    ap (λ x. cond (has_chip m bank (src_of m bank)) x (at_levels l m))
    (ap (λ before. after_chain_clocks before (at_levels l set)) (clock_levels-at_levels l m v) ∙ after_chain_clocks-at_levels l (clock_levels m) set v)
    ∙ cond-at_levels l (has_chip m bank (src_of m bank)) (after_chain_clocks (clock_levels m) set) m

after_rom_port-at_levels-for-masks : (l : Levels) (m : BusState) (n : ℕ) (o : Option (List LineMask)) → board_fault_of m.board ≡ None →
    elim o [ Some mask ↦ after_chain_clocks (clock_levels (at_levels l m)) (with_rom_ports_at (at_levels l m) (m.rom_src / 16) (latch_value mask n)) | None ↦ at_levels l m ]
    ≡ at_levels l (elim o [ Some mask ↦ after_chain_clocks (clock_levels m) (with_rom_ports_at m (m.rom_src / 16) (latch_value mask n)) | None ↦ m ])
after_rom_port-at_levels-for-masks l m n None v = refl
after_rom_port-at_levels-for-masks l m n (Some mask) v =
    let set = with_rom_ports_at m (m.rom_src / 16) (latch_value mask n) in
    ap (λ before. after_chain_clocks before (at_levels l set)) (clock_levels-at_levels l m v) ∙ after_chain_clocks-at_levels l (clock_levels m) set v

after_rom_port-at_levels : (l : Levels) (m : BusState) (n : ℕ) → board_fault_of m.board ≡ None → after_rom_port (at_levels l m) n ≡ at_levels l (after_rom_port m n)
unfolding after_rom_port
after_rom_port-at_levels l m n v = after_rom_port-at_levels-for-masks l m n (rom_masks m.board (m.rom_src / 16)) v

pub bus_after-at_levels : (l : Levels) (op : Op) (s : Regs) (m : BusState) → board_fault_of m.board ≡ None → bus_after op s (at_levels l m) ≡ at_levels l (bus_after op s m)
bus_after-at_levels l (Src k) s m v = after_src-at_levels l m s.dcl (pair_of s k)
bus_after-at_levels l Wrm s m v = after_ram-at_levels l m s.dcl s.acc
bus_after-at_levels l Wmp s m v = after_ram_port-at_levels l m s.dcl s.acc v
bus_after-at_levels l Wrr s m v = after_rom_port-at_levels l m s.acc v
bus_after-at_levels l Wr0 s m v = after_status-at_levels l m s.dcl 0 s.acc
bus_after-at_levels l Wr1 s m v = after_status-at_levels l m s.dcl 1 s.acc
bus_after-at_levels l Wr2 s m v = after_status-at_levels l m s.dcl 2 s.acc
bus_after-at_levels l Wr3 s m v = after_status-at_levels l m s.dcl 3 s.acc
bus_after-at_levels l _ s m v = refl

-- ---- a cycle

effect-with_levels-if-no-read : (l : Levels) (o : Option Op) (s : Regs) (m : BusState) → board_fault_of m.board ≡ None → reads_input o ≡ false →
    unwrap_or (elim o [ Some op ↦ Some (effect op s (at_levels l m)) | None ↦ None ]) (s, at_levels l m)
    ≡ with_levels l (unwrap_or (elim o [ Some op ↦ Some (effect op s m) | None ↦ None ]) (s, m))
effect-with_levels-if-no-read l None s m v e = refl
effect-with_levels-if-no-read l (Some op) s m v e =
    ap (λ r. (r, bus_after op s (at_levels l m))) (registers_after-at_levels l op (after_fetch op s) m e)
    ∙ ap (λ b. (registers_after op (after_fetch op s) m, b)) (bus_after-at_levels l op s m v)

cycle_of-with_levels-if-no-read : (l : Levels) (s : Machine) (b : Bool) → board_fault_of s.1.board ≡ None → (not b && reads_input (instruction_at s.0 s.1)) ≡ false →
    unwrap_or (cond b (Some (record s.0 { owed = 0 }, at_levels l s.1)) (elim (instruction_at s.0 s.1) [ Some op ↦ Some (effect op s.0 (at_levels l s.1)) | None ↦ None ])) (with_levels l s)
    ≡ with_levels l (unwrap_or (cond b (Some (record s.0 { owed = 0 }, s.1)) (elim (instruction_at s.0 s.1) [ Some op ↦ Some (effect op s.0 s.1) | None ↦ None ])) s)
cycle_of-with_levels-if-no-read l s true v e = refl
cycle_of-with_levels-if-no-read l s false v e = effect-with_levels-if-no-read l (instruction_at s.0 s.1) s.0 s.1 v e

-- a cycle that reads no input does not depend on the input levels and leaves them unchanged
pub cycled-with_levels-if-no-read : (l : Levels) (s : Machine) → board_fault_of s.1.board ≡ None → next_reads_input s ≡ false → cycled (with_levels l s) ≡ with_levels l (cycled s)
unfolding cycle_of fetch_of
cycled-with_levels-if-no-read l s v e = cycle_of-with_levels-if-no-read l s (eqb s.0.owed 1) v e
