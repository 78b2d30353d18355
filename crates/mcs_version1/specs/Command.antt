-- The commands that a bench of version 1 accepts, their effects and its replies. Version 1 has no
-- watches and only small boards. For a command that version 1 does not have
-- (`is_command_of_version_1` is false), the other definitions have no meaning.
use Rattle.std.specs.Prelude.{Bool, true, false, ◌+◌, ◌==◌, ◌&&◌, ◌||◌, length, Option, Some, None, nat_lt, nat_le, slice_set, if◌then◌else◌}
use Rattle.std.specs.List.{list_any}
use Rattle.mcs_model.specs.declared.command.Command.{Command}
use Rattle.mcs_model.specs.declared.command.Command.TheVariants.{Wire, Load, Press, Release, Run, Step, Poke, Test, Reset, Break, Unbreak, Watch, Unwatch}
use Rattle.mcs_model.specs.declared.command.Place.{Place}
use Rattle.mcs_model.specs.declared.command.Place.TheVariants.{Acc, Cy, Pc, Register, Dcl, Rom, Ram, Status}
use Rattle.mcs_model.specs.declared.command.Reply.{Reply}
use Rattle.mcs_model.specs.declared.command.Reply.TheVariants.{Done, Loaded, Ran}
use Rattle.mcs_model.specs.declared.limits.TheConstants.{ACCEPTED_COMMANDS, BREAKPOINTS, RUN_CYCLES}
use Rattle.mcs_model.specs.declared.refusals.BenchFault.{BenchFault}
use Rattle.mcs_model.specs.declared.refusals.BenchFault.TheVariants.{NoKey, NoRom, BadCount, BreaksFull, CommandsExhausted}
use Rattle.mcs_model.specs.declared.regs.Regs.{Regs}
use Rattle.mcs_model.specs.Boards.{has_key}
use Rattle.mcs_model.specs.Listed.{is_listed, with_listed, without_listed}
use Rattle.mcs_model.specs.Bus.{BusState, with_ram, with_status}
use Rattle.mcs_model.specs.Command.{lacks_rom, place_refusal}
use Rattle.mcs_model.specs.BenchState.{new_regs}
use Rattle.mcs_model.specs.ChipWrites.{with_rom_byte, with_rom_bytes, with_key, after_reset, after_board_change}
use Rattle.mcs_model.specs.Running.{Machine, step_length, after_step, step_stop_reason}
use Rattle.mcs_version1.specs.Boards.{fits_version_1}
use Rattle.mcs_version1.specs.BenchState.{BenchState1}
use Rattle.mcs_version1.specs.Running.{run_length_1, after_run_1, run_stop_1}

-- True for the locations that `poke` can set in version 1. The definition lists each variant, so
-- that a new variant cannot be added to version 1 unnoticed.
abbrev pub is_place_1 : Place → Bool
is_place_1 (Acc n) = true
is_place_1 (Cy bit) = true
is_place_1 (Pc at) = true
is_place_1 (Register r n) = true
is_place_1 (Dcl bank) = true
is_place_1 (Rom at byte) = true
is_place_1 (Ram bank src n) = true
is_place_1 (Status bank high k n) = true

-- true if version 1 has this command
abbrev pub is_command_of_version_1 : Command → Bool
is_command_of_version_1 (Wire board) = fits_version_1 board
is_command_of_version_1 (Poke place) = is_place_1 place
is_command_of_version_1 (Watch bank src) = false
is_command_of_version_1 (Unwatch bank src) = false
is_command_of_version_1 _ = true

-- ---- which commands are accepted

-- The reason why a state rejects a command, or `None`. This definition ignores the limit on the
-- number of accepted commands.
abbrev pub refusal_of_command_1 : BenchState1 → Command → Option BenchFault
refusal_of_command_1 s (Load image) =
    if list_any (λ p. lacks_rom s.bus.board p.0) image
    then Some NoRom
    else None
refusal_of_command_1 s (Press row column) = if has_key s.bus.board row column then None else Some NoKey
refusal_of_command_1 s (Release row column) = if has_key s.bus.board row column then None else Some NoKey
refusal_of_command_1 s (Run n) = if nat_le 1 n && nat_le n RUN_CYCLES then None else Some BadCount
refusal_of_command_1 s (Poke place) = place_refusal s.bus place
refusal_of_command_1 s (Break at) =
    if is_listed s.breakpoints at || nat_lt (length s.breakpoints) BREAKPOINTS
    then None
    else Some BreaksFull
refusal_of_command_1 s _ = None

-- The reason why a state rejects a command, or `None`. A session that has accepted the maximum
-- number of commands rejects every command.
abbrev pub refusal_1 : BenchState1 → Command → Option BenchFault
refusal_1 s c = if s.seq == ACCEPTED_COMMANDS then Some CommandsExhausted else refusal_of_command_1 s c

-- ---- the effects

abbrev pub machine_of_1 : BenchState1 → Machine
machine_of_1 s = (s.processor, s.bus)

abbrev pub with_machine_1 : BenchState1 → Machine → BenchState1
with_machine_1 s m = record s { processor = m.0; bus = m.1 }

abbrev pub with_processor_1 : BenchState1 → Regs → BenchState1
with_processor_1 s p = record s { processor = p }

abbrev pub with_bus_1 : BenchState1 → BusState → BenchState1
with_bus_1 s b = record s { bus = b }

-- the state after `poke` sets a location to a value
abbrev pub with_place_1 : BenchState1 → Place → BenchState1
with_place_1 s (Acc n) = with_processor_1 s (record s.processor { acc = n })
with_place_1 s (Cy bit) = with_processor_1 s (record s.processor { cy = bit })
with_place_1 s (Pc at) = with_processor_1 s (record s.processor { pc = at })
with_place_1 s (Register r n) =
    with_processor_1 s (record s.processor { r = slice_set s.processor.r r n })
with_place_1 s (Dcl bank) = with_processor_1 s (record s.processor { dcl = bank })
with_place_1 s (Rom at byte) = with_bus_1 s (with_rom_byte s.bus at byte)
with_place_1 s (Ram bank src n) = with_bus_1 s (with_ram s.bus bank src n)
with_place_1 s (Status bank high k n) = with_bus_1 s (with_status s.bus bank high k n)

-- the state after the effect of a command, before the command is counted
abbrev pub after_change_1 : BenchState1 → Command → BenchState1
after_change_1 s (Wire board) = with_machine_1 s (new_regs, after_board_change s.bus board)
after_change_1 s (Load image) = with_bus_1 s (with_rom_bytes s.bus image)
after_change_1 s (Press row column) = with_bus_1 s (with_key s.bus row column 1)
after_change_1 s (Release row column) = with_bus_1 s (with_key s.bus row column 0)
after_change_1 s (Run n) = with_machine_1 s (after_run_1 s.breakpoints n (machine_of_1 s))
after_change_1 s Step = with_machine_1 s (after_step (machine_of_1 s))
after_change_1 s (Poke place) = with_place_1 s place
after_change_1 s (Test bit) = with_bus_1 s (record s.bus { test = bit })
after_change_1 s Reset = with_machine_1 s (new_regs, after_reset s.bus)
after_change_1 s (Break at) = record s { breakpoints = with_listed s.breakpoints at }
after_change_1 s (Unbreak at) = record s { breakpoints = without_listed s.breakpoints at }
after_change_1 s _ = s

-- The state after an accepted command. Every accepted command adds 1 to the number of accepted
-- commands (`seq`), even if nothing else changes.
abbrev pub after_1 : BenchState1 → Command → BenchState1
after_1 s c = record (after_change_1 s c) { seq = s.seq + 1 }

-- ---- the replies

-- the reply to an accepted command
abbrev pub reply_1 : BenchState1 → Command → Reply
reply_1 s (Load image) = Loaded (length image)
reply_1 s (Run n) =
    Ran (run_length_1 s.breakpoints n (machine_of_1 s)) (run_stop_1 s.breakpoints n (machine_of_1 s))
reply_1 s Step = Ran (step_length (machine_of_1 s)) (step_stop_reason (machine_of_1 s))
reply_1 s _ = Done
