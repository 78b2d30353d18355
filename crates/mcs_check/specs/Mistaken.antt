-- Common programming mistakes. The program makes a mistake in the cycle that begins the faulty
-- instruction. (The list of mistakes is defined by Fethsaim, not by Intel. From the MCS-4 Users
-- Manual: the instruction table, the three return addresses, the ports of the 4001 and the 4002.
-- Effect and Bus of mcs_model define the effect of each mistake.)
use Rattle.std.specs.Prelude.{◌+◌, ◌/◌, ◌%◌, ℕ, Bool, true, false, not, ◌&&◌, ◌||◌, ◌==◌, Some, None, is_none, nat_lt}
use Rattle.mcs_model.specs.declared.board.BoardParts.{BoardParts}
use Rattle.mcs_model.specs.declared.op.Op.{Op}
use Rattle.mcs_model.specs.declared.op.Op.TheVariants.{Jcn, Fim, Fin, Jun, Jms, Isz, Bbl, Wrm, Wmp, Wrr, Wr0, Wr1, Wr2, Wr3, Sbm, Rdm, Rdr, Adm, Rd0, Rd1, Rd2, Rd3}
use Rattle.mcs_model.specs.declared.regs.Regs.{Regs}
use Rattle.mcs_model.specs.Boards.{is_rom_input_line, rom_masks}
use Rattle.mcs_model.specs.Bus.{BusState, has_chip, src_of}
use Rattle.mcs_model.specs.Command.{lacks_rom}
use Rattle.mcs_model.specs.Effect.{instruction_at}
use Rattle.mcs_model.specs.Numbers.{word_on_page}
use Rattle.mcs_model.specs.Registers.{pair_of}
use Rattle.mcs_drive.specs.TrackedMachine.{TrackedMachine}
use Rattle.mcs_check.specs.declared.common_mistakes.Mistakes.{Mistakes}

-- true if an instruction is a fourth nested call: a JMS while three calls are open
abbrev pub is_fourth_call : Op → ℕ → Bool
is_fourth_call (Jms h b) calls = nat_lt 2 calls
is_fourth_call _ calls = false

-- true if an instruction is a BBL while no call is open
abbrev pub is_unmatched_return : Op → ℕ → Bool
is_unmatched_return (Bbl d) calls = calls == 0
is_unmatched_return _ calls = false

-- true if an instruction reads or writes a RAM chip: a RAM nibble, a status character or the port
abbrev pub uses_ram : Op → Bool
uses_ram Wrm = true
uses_ram Wmp = true
uses_ram Wr0 = true
uses_ram Wr1 = true
uses_ram Wr2 = true
uses_ram Wr3 = true
uses_ram Sbm = true
uses_ram Rdm = true
uses_ram Adm = true
uses_ram Rd0 = true
uses_ram Rd1 = true
uses_ram Rd2 = true
uses_ram Rd3 = true
uses_ram _ = false

-- true if the board lacks the selected RAM chip. DCL selects the bank, and the SRC byte that this
-- bank stores selects the chip.
abbrev pub lacks_selected_ram : Regs → BusState → Bool
lacks_selected_ram s m = not (has_chip m s.dcl (src_of m s.dcl))

-- the address of the last word that an instruction reads from ROM: the address of its second word,
-- or of the byte that FIN loads. If there is no such word, it is the address of the instruction.
abbrev pub last_address_read : Op → Regs → ℕ
last_address_read (Jcn c b) s = (s.pc + 1) % 4096
last_address_read (Fim k b) s = (s.pc + 1) % 4096
last_address_read (Fin k) s = word_on_page ((s.pc + 1) % 4096 / 256) (pair_of s 0)
last_address_read (Jun h b) s = (s.pc + 1) % 4096
last_address_read (Jms h b) s = (s.pc + 1) % 4096
last_address_read (Isz r b) s = (s.pc + 1) % 4096
last_address_read _ s = s.pc

-- true if an instruction reads a word from a ROM that the board does not have
abbrev pub reads_absent_rom : Op → Regs → BoardParts → Bool
reads_absent_rom op s b = lacks_rom b s.pc || lacks_rom b (last_address_read op s)

-- true if a ROM's port has an input line. An absent ROM has none.
abbrev pub has_input : BoardParts → ℕ → Bool
has_input b chip = is_rom_input_line b chip 0 || is_rom_input_line b chip 1 || is_rom_input_line b chip 2 || is_rom_input_line b chip 3

-- true if a ROM's port has an output line. An absent ROM has none.
abbrev pub has_output : BoardParts → ℕ → Bool
has_output b chip =
    not (is_none (rom_masks b chip))
    && not (is_rom_input_line b chip 0 && is_rom_input_line b chip 1 && is_rom_input_line b chip 2 && is_rom_input_line b chip 3)

-- true if an instruction is an RDR
abbrev pub is_rdr : Op → Bool
is_rdr Rdr = true
is_rdr _ = false

-- true if an instruction is a WRR
abbrev pub is_wrr : Op → Bool
is_wrr Wrr = true
is_wrr _ = false

-- true if an instruction makes a call mistake that `kinds` includes: a fourth nested call, or a BBL
-- while no call is open
abbrev pub makes_call_mistake : Mistakes → Op → TrackedMachine → Bool
makes_call_mistake kinds op s =
    (kinds.fourth_call && is_fourth_call op s.2.calls) || (kinds.unmatched_return && is_unmatched_return op s.2.calls)

-- true if an instruction makes a chip mistake that `kinds` includes: it uses an absent RAM chip or
-- an absent ROM
abbrev pub makes_chip_mistake : Mistakes → Op → TrackedMachine → Bool
makes_chip_mistake kinds op s =
    (kinds.absent_ram && uses_ram op && lacks_selected_ram s.0 s.1)
    || (kinds.absent_rom && reads_absent_rom op s.0 s.1.board)

-- true if an instruction makes a port mistake that `kinds` includes: an RDR without input lines, or
-- a WRR without output lines
abbrev pub makes_port_mistake : Mistakes → Op → TrackedMachine → Bool
makes_port_mistake kinds op s =
    (kinds.port_without_inputs && is_rdr op && not (has_input s.1.board (s.1.rom_src / 16)))
    || (kinds.port_without_outputs && is_wrr op && not (has_output s.1.board (s.1.rom_src / 16)))

-- true if an instruction makes a mistake that `kinds` includes
abbrev pub op_makes_mistake : Mistakes → Op → TrackedMachine → Bool
op_makes_mistake kinds op s = makes_call_mistake kinds op s || makes_chip_mistake kinds op s || makes_port_mistake kinds op s

-- true if the next cycle makes a mistake that `kinds` includes. Either it begins an instruction
-- that makes the mistake, or the opcode at the program counter is outside the instruction table.
abbrev pub cycle_makes_mistake : Mistakes → TrackedMachine → Bool
cycle_makes_mistake kinds s =
    not (s.0.owed == 1)
    && elim (instruction_at s.0 s.1) [ Some op ↦ op_makes_mistake kinds op s | None ↦ kinds.invalid_opcode ]
