-- The commands that a bench accepts, the effects of commands, and the replies of the bench.
-- (Defined by Fethsaim, not by Intel: a command is an action of a user at the bench.)
use Rattle.std.specs.Prelude.{ℕ, Bool, ◌+◌, ◌/◌, ◌==◌, ◌&&◌, ◌||◌, length, Option, Some, None, is_none, nat_lt, nat_le, slice_set, if◌then◌else◌}
use Rattle.std.specs.List.{list_any}
use Rattle.mcs_model.specs.declared.board.BoardParts.{BoardParts}
use Rattle.mcs_model.specs.declared.command.Command.{Command}
use Rattle.mcs_model.specs.declared.command.Command.TheVariants.{Wire, Load, Press, Release, Run, Step, Poke, Test, Reset, Break, Unbreak, Watch, Unwatch}
use Rattle.mcs_model.specs.declared.command.Place.{Place}
use Rattle.mcs_model.specs.declared.command.Place.TheVariants.{Acc, Cy, Pc, Register, Dcl, Rom, Ram, Status}
use Rattle.mcs_model.specs.declared.command.Reply.{Reply}
use Rattle.mcs_model.specs.declared.command.Reply.TheVariants.{Done, Loaded, Ran}
use Rattle.mcs_model.specs.declared.limits.TheConstants.{ACCEPTED_COMMANDS, BREAKPOINTS, RUN_CYCLES, WATCHES}
use Rattle.mcs_model.specs.declared.refusals.BenchFault.{BenchFault}
use Rattle.mcs_model.specs.declared.refusals.BenchFault.TheVariants.{NoKey, NoRom, NoSuchPlace, BadCount, BreaksFull, CommandsExhausted, WatchesFull}
use Rattle.mcs_model.specs.declared.regs.Regs.{Regs}
use Rattle.mcs_model.specs.Boards.{has_key, rom_masks}
use Rattle.mcs_model.specs.Listed.{is_listed, with_listed, without_listed}
use Rattle.mcs_model.specs.Bus.{BusState, has_chip, chips_of, ram_index, with_ram, with_status}
use Rattle.mcs_model.specs.BenchState.{BenchState, new_regs}
use Rattle.mcs_model.specs.ChipWrites.{with_rom_byte, with_rom_bytes, with_key, after_reset, after_board_change}
use Rattle.mcs_model.specs.Running.{Machine, StopConditions, run_length, after_run, run_stop_reason, step_length, after_step, step_stop_reason}

-- ---- which commands are accepted

-- true if the ROM that contains the address is not on the board
abbrev pub lacks_rom : BoardParts → ℕ → Bool
lacks_rom b at = is_none (rom_masks b (at / 256))

-- the reason why the location cannot be set, or none
abbrev pub place_refusal : BusState → Place → Option BenchFault
place_refusal s (Rom at byte) = if lacks_rom s.board at then Some NoRom else None
place_refusal s (Ram bank src n) = if has_chip s bank src then None else Some NoSuchPlace
place_refusal s (Status bank high k n) =
    if nat_lt (high / 4) (chips_of s bank)
    then None
    else Some NoSuchPlace
place_refusal s _ = None

-- The reason why a state rejects a command, or none. This definition ignores the limit on the
-- number of commands.
abbrev pub refusal_of_command : BenchState → Command → Option BenchFault
refusal_of_command s (Load image) =
    if list_any (λ p. lacks_rom s.bus.board p.0) image
    then Some NoRom
    else None
refusal_of_command s (Press row column) = if has_key s.bus.board row column then None else Some NoKey
refusal_of_command s (Release row column) = if has_key s.bus.board row column then None else Some NoKey
refusal_of_command s (Run n) = if nat_le 1 n && nat_le n RUN_CYCLES then None else Some BadCount
refusal_of_command s (Poke place) = place_refusal s.bus place
refusal_of_command s (Break at) =
    if is_listed s.breakpoints at || nat_lt (length s.breakpoints) BREAKPOINTS
    then None
    else Some BreaksFull
refusal_of_command s (Watch bank src) =
    if is_listed s.watches (ram_index bank src) || nat_lt (length s.watches) WATCHES
    then None
    else Some WatchesFull
refusal_of_command s _ = None

-- The reason why a state rejects a command, or none. A session that has accepted the maximum number
-- of commands rejects every command.
abbrev pub refusal : BenchState → Command → Option BenchFault
refusal s c = if s.seq == ACCEPTED_COMMANDS then Some CommandsExhausted else refusal_of_command s c

-- ---- the effects

abbrev pub machine_of : BenchState → Machine
machine_of s = (s.processor, s.bus)

-- the breakpoints and watches of a run that begins in this state
abbrev pub stops_of : BenchState → StopConditions
stops_of s = record { breaks = s.breakpoints; watches = s.watches }

abbrev pub with_machine : BenchState → Machine → BenchState
with_machine s m = record s { processor = m.0; bus = m.1 }

abbrev pub with_processor : BenchState → Regs → BenchState
with_processor s p = record s { processor = p }

abbrev pub with_bus : BenchState → BusState → BenchState
with_bus s b = record s { bus = b }

-- the state after a location is set to a value
abbrev pub with_place : BenchState → Place → BenchState
with_place s (Acc n) = with_processor s (record s.processor { acc = n })
with_place s (Cy bit) = with_processor s (record s.processor { cy = bit })
with_place s (Pc at) = with_processor s (record s.processor { pc = at })
with_place s (Register r n) =
    with_processor s (record s.processor { r = slice_set s.processor.r r n })
with_place s (Dcl bank) = with_processor s (record s.processor { dcl = bank })
with_place s (Rom at byte) = with_bus s (with_rom_byte s.bus at byte)
with_place s (Ram bank src n) = with_bus s (with_ram s.bus bank src n)
with_place s (Status bank high k n) = with_bus s (with_status s.bus bank high k n)

-- the state after the effect of a command, before the command is counted
abbrev pub after_change : BenchState → Command → BenchState
after_change s (Wire board) = with_machine s (new_regs, after_board_change s.bus board)
after_change s (Load image) = with_bus s (with_rom_bytes s.bus image)
after_change s (Press row column) = with_bus s (with_key s.bus row column 1)
after_change s (Release row column) = with_bus s (with_key s.bus row column 0)
after_change s (Run n) = with_machine s (after_run (stops_of s) n (machine_of s))
after_change s Step = with_machine s (after_step (machine_of s))
after_change s (Poke place) = with_place s place
after_change s (Test bit) = with_bus s (record s.bus { test = bit })
after_change s Reset = with_machine s (new_regs, after_reset s.bus)
after_change s (Break at) = record s { breakpoints = with_listed s.breakpoints at }
after_change s (Unbreak at) = record s { breakpoints = without_listed s.breakpoints at }
after_change s (Watch bank src) = record s { watches = with_listed s.watches (ram_index bank src) }
after_change s (Unwatch bank src) =
    record s { watches = without_listed s.watches (ram_index bank src) }

-- The state after an accepted command. Every accepted command adds 1 to the number of accepted
-- commands (`seq`), even if nothing else changes.
abbrev pub after : BenchState → Command → BenchState
after s c = record (after_change s c) { seq = s.seq + 1 }

-- ---- the replies

-- the reply to a command that is accepted in the state `s`
abbrev pub reply : BenchState → Command → Reply
reply s (Load image) = Loaded (length image)
reply s (Run n) =
    Ran (run_length (stops_of s) n (machine_of s)) (run_stop_reason (stops_of s) n (machine_of s))
reply s Step = Ran (step_length (machine_of s)) (step_stop_reason (machine_of s))
reply s _ = Done
