-- The effect of each instruction, and one instruction cycle. (Intel MCS-4 Users Manual, instruction
-- set: each rule is the manual's description of the instruction, in the manual's three groups. Five
-- rules are defined by Fethsaim, not by Intel. Some opcodes are outside the table. The return
-- addresses are one list. The command register contains the bank number. Each bank stores its own
-- SRC byte. A two-cycle instruction does all its work in the first cycle.)
use Rattle.std.specs.Prelude.{ℕ, ◌+◌, ◌-◌, ◌*◌, ◌/◌, ◌%◌, Bool, ◌&&◌, ◌||◌, not, [], ◌∷◌, Option, Some, None, slice_index, if◌then◌else◌, nat_lt, ◌==◌}
use Rattle.mcs_model.specs.declared.regs.Regs.{Regs}
use Rattle.mcs_model.specs.declared.op.Op.{Op}
use Rattle.mcs_model.specs.declared.op.Op.TheVariants.{Nop, Jcn, Fim, Src, Fin, Jin, Jun, Jms, Inc, Isz, Add, Sub, Ld, Xch, Bbl, Ldm, Wrm, Wmp, Wrr, Wr0, Wr1, Wr2, Wr3, Sbm, Rdm, Rdr, Adm, Rd0, Rd1, Rd2, Rd3, Clb, Clc, Iac, Cmc, Cma, Ral, Rar, Tcc, Dac, Tcs, Stc, Daa, Kbp, Dcl}
use Rattle.mcs_model.specs.Numbers.{page_of, word_on_page}
use Rattle.mcs_model.specs.Registers.{register_of, pair_of, with_register, with_pair}
use Rattle.mcs_model.specs.Bus.{BusState, fetch_of, after_src, ram_of, after_ram, status_of, after_status}
use Rattle.mcs_model.specs.Levels.{after_ram_port, after_rom_port, port_of}
use Rattle.mcs_model.specs.Table.{instruction_of, word_count_of, cycles_of}

-- the registers with the accumulator set to `n`
abbrev pub with_acc : Regs → ℕ → Regs
with_acc s n = record s { acc = n }

-- the registers after a sum `x` is stored: `x % 16` in the accumulator, `x / 16` in the carry
abbrev pub with_sum : Regs → ℕ → Regs
with_sum s x = record s { acc = x % 16; cy = x / 16 }

-- The address with the lower eight bits `w`, on the same page as `address`. JCN, ISZ, FIN and JIN
-- use the page of the address after the instruction (MCS-4 Users Manual, on these instructions at
-- the end of a page).
abbrev pub address_on_page_of : ℕ → ℕ → ℕ
address_on_page_of address w = word_on_page (page_of address) w

-- The registers after a jump to word `w` on the program counter's page. In `s`, the program counter
-- is already the address after the instruction.
abbrev pub with_pc_on_page : Regs → ℕ → Regs
with_pc_on_page s w = record s { pc = address_on_page_of s.pc w }

-- JCN: true if the processor jumps. Condition bit 2 selects the test whether the accumulator is 0,
-- bit 1 whether the carry is 1, and bit 0 whether TEST is 0. The processor jumps if at least one of
-- the selected tests is true. Condition bit 3 inverts the result.
abbrev pub is_taken : ℕ → Regs → ℕ → Bool
is_taken condition s test =
    let holds =
    (condition / 4 % 2 == 1 && s.acc == 0)
    || (condition / 2 % 2 == 1 && s.cy == 1)
    || (condition % 2 == 1 && test == 0) in
    if condition / 8 % 2 == 1 then not holds else holds

-- JCN: sets the program counter to word `w` on the program counter's page if the processor jumps
-- (`is_taken`)
abbrev pub after_jcn : ℕ → ℕ → Regs → ℕ → Regs
after_jcn condition w s test = if is_taken condition s test then with_pc_on_page s w else s

-- ISZ: increments register `r`, and sets the program counter to word `w` on the program counter's
-- page if the register is then not 0
abbrev pub after_isz : ℕ → ℕ → Regs → Regs
after_isz r w s =
    let n = (register_of s r + 1) % 16 in
    if n == 0 then with_register s r n else with_pc_on_page (with_register s r n) w

-- JMS: sets the program counter to the target. The old program counter becomes the first return
-- address, and the last return address is lost. (Fethsaim, not Intel, specifies that the return
-- addresses form one list.)
abbrev pub after_jms : ℕ → Regs → Regs
after_jms target s =
    record s { pc = target; ret = s.pc ∷ slice_index s.ret 0 ∷ slice_index s.ret 1 ∷ [] }

-- BBL: sets the program counter to the first return address; the old program counter becomes the
-- last return address (defined by Fethsaim, not by Intel)
abbrev pub after_bbl : Regs → Regs
after_bbl s =
    record s { pc = slice_index s.ret 0; ret = slice_index s.ret 1 ∷ slice_index s.ret 2 ∷ s.pc ∷ [] }

-- RAR: rotates the accumulator and the carry right by one bit
abbrev pub after_rar : Regs → Regs
after_rar s = record s { acc = 8 * s.cy + s.acc / 2; cy = s.acc % 2 }

-- DAA: adds 6 to the accumulator if the carry is 1 or the accumulator is above 9. The carry becomes
-- 1 if the sum is above 15, and is never cleared.
abbrev pub after_daa : Regs → Regs
after_daa s =
    if s.cy == 1 || nat_lt 9 s.acc
    then record s { acc = (s.acc + 6) % 16; cy = if nat_lt 15 (s.acc + 6) then 1 else s.cy }
    else s

-- KBP: the number of the only bit that is 1, counted from 1; 0 if no bit is 1, 15 if several are
abbrev pub key_of : ℕ → ℕ
key_of n =
    if n == 0 then 0
    else if n == 1 then 1
    else if n == 2 then 2
    else if n == 4 then 3
    else if n == 8 then 4
    else 15

-- The registers after an instruction. In `s`, the program counter is already the address after the
-- instruction's words. The rules are in the groups of Intel's manual: machine instructions (NOP to
-- LDM), RAM and port instructions (WRM to RD3), and accumulator instructions (CLB to DCL). For SUB
-- and SBM, a carry of 1 before the instruction is a borrow, and a carry of 1 after it means no
-- borrow.
abbrev pub registers_after : Op → Regs → BusState → Regs
registers_after Nop s _ = s
registers_after (Jcn c b) s m = after_jcn c b s m.test
registers_after (Fim k b) s _ = with_pair s k b
registers_after (Src _) s _ = s
registers_after (Fin k) s m = with_pair s k (fetch_of m (address_on_page_of s.pc (pair_of s 0)))
registers_after (Jin k) s _ = with_pc_on_page s (pair_of s k)
registers_after (Jun h b) s _ = record s { pc = word_on_page h b }
registers_after (Jms h b) s _ = after_jms (word_on_page h b) s
registers_after (Inc r) s _ = with_register s r ((register_of s r + 1) % 16)
registers_after (Isz r b) s _ = after_isz r b s
registers_after (Add r) s _ = with_sum s (s.acc + register_of s r + s.cy)
registers_after (Sub r) s _ = with_sum s (s.acc + (15 - register_of s r) + (1 - s.cy))
registers_after (Ld r) s _ = with_acc s (register_of s r)
registers_after (Xch r) s _ = with_acc (with_register s r s.acc) (register_of s r)
registers_after (Bbl d) s _ = with_acc (after_bbl s) d
registers_after (Ldm d) s _ = with_acc s d
registers_after Wrm s _ = s
registers_after Wmp s _ = s
registers_after Wrr s _ = s
registers_after Wr0 s _ = s
registers_after Wr1 s _ = s
registers_after Wr2 s _ = s
registers_after Wr3 s _ = s
registers_after Sbm s m = with_sum s (s.acc + (15 - ram_of m s.dcl) + (1 - s.cy))
registers_after Rdm s m = with_acc s (ram_of m s.dcl)
registers_after Rdr s m = with_acc s (port_of m)
registers_after Adm s m = with_sum s (s.acc + ram_of m s.dcl + s.cy)
registers_after Rd0 s m = with_acc s (status_of m s.dcl 0)
registers_after Rd1 s m = with_acc s (status_of m s.dcl 1)
registers_after Rd2 s m = with_acc s (status_of m s.dcl 2)
registers_after Rd3 s m = with_acc s (status_of m s.dcl 3)
registers_after Clb s _ = record s { acc = 0; cy = 0 }
registers_after Clc s _ = record s { cy = 0 }
registers_after Iac s _ = with_sum s (s.acc + 1)
registers_after Cmc s _ = record s { cy = 1 - s.cy }
registers_after Cma s _ = with_acc s (15 - s.acc)
registers_after Ral s _ = with_sum s (2 * s.acc + s.cy)
registers_after Rar s _ = after_rar s
registers_after Tcc s _ = record s { acc = s.cy; cy = 0 }
registers_after Dac s _ = with_sum s (s.acc + 15)
registers_after Tcs s _ = record s { acc = 9 + s.cy; cy = 0 }
registers_after Stc s _ = record s { cy = 1 }
registers_after Daa s _ = after_daa s
registers_after Kbp s _ = with_acc s (key_of s.acc)
registers_after Dcl s _ = record s { dcl = s.acc % 8 }

-- The bus after an instruction. Only SRC and the instructions that write a RAM nibble, a status
-- character or a port change the bus (MCS-4 Users Manual, SRC and the input, output and RAM
-- instructions).
abbrev pub bus_after : Op → Regs → BusState → BusState
bus_after (Src k) s m = after_src m s.dcl (pair_of s k)
bus_after Wrm s m = after_ram m s.dcl s.acc
bus_after Wmp s m = after_ram_port m s.dcl s.acc
bus_after Wrr s m = after_rom_port m s.acc
bus_after Wr0 s m = after_status m s.dcl 0 s.acc
bus_after Wr1 s m = after_status m s.dcl 1 s.acc
bus_after Wr2 s m = after_status m s.dcl 2 s.acc
bus_after Wr3 s m = after_status m s.dcl 3 s.acc
bus_after _ _ m = m

-- The registers after the program counter moves past the instruction's words. `owed` becomes 1 if
-- the instruction has a second cycle, otherwise 0.
abbrev pub after_fetch : Op → Regs → Regs
after_fetch op s = record s { pc = (s.pc + word_count_of op) % 4096; owed = cycles_of op - 1 }

-- the registers and the bus after the first cycle of an instruction; this cycle does all the work
-- of the instruction
abbrev pub effect : Op → Regs → BusState → Regs × BusState
effect op s m = (registers_after op (after_fetch op s) m, bus_after op s m)

-- the instruction at the program counter, or none if its opcode is outside the table; address 0
-- follows address 4095
abbrev pub instruction_at : Regs → BusState → Option Op
instruction_at s m = instruction_of (fetch_of m s.pc) (fetch_of m ((s.pc + 1) % 4096))

-- One instruction cycle. It is the pending second cycle if there is one, and otherwise the first
-- cycle of the instruction at the program counter. The result is none if the opcode of that
-- instruction is outside the table.
unfoldable pub cycle_of : Regs → BusState → Option (Regs × BusState)
cycle_of s m =
    if s.owed == 1
    then Some (record s { owed = 0 }, m)
    else elim (instruction_at s m) [ Some op ↦ Some (effect op s m) | None ↦ None ]
