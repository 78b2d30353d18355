-- The refusal numbers of errors.
use Rattle.std.specs.Prelude.{ℕ}
use Rattle.mcs_model.specs.declared.board.BoardFault.{BoardFault}
use Rattle.mcs_model.specs.declared.board.BoardFault.TheVariants.{BadValue, NoSuchLine, WrongDirection}
use Rattle.mcs_model.specs.declared.refusals.BenchFault.{BenchFault}
use Rattle.mcs_model.specs.declared.refusals.BenchFault.TheVariants.{NoKey, NoRom, NoSuchPlace, BadCount, BreaksFull, CommandsExhausted, WatchesFull}
use Rattle.mcs_model.specs.declared.refusal_numbers.TheConstants.{BAD_VALUE, NO_SUCH_LINE, WRONG_DIRECTION, NO_KEY, NO_ROM, NO_SUCH_PLACE, BAD_COUNT, BREAKS_FULL, COMMANDS_EXHAUSTED, WATCHES_FULL}

-- the refusal number of a command that a bench rejects
abbrev pub bench_fault_number : BenchFault → ℕ
bench_fault_number NoKey = NO_KEY
bench_fault_number NoRom = NO_ROM
bench_fault_number NoSuchPlace = NO_SUCH_PLACE
bench_fault_number BadCount = BAD_COUNT
bench_fault_number BreaksFull = BREAKS_FULL
bench_fault_number CommandsExhausted = COMMANDS_EXHAUSTED
bench_fault_number WatchesFull = WATCHES_FULL

-- the refusal number of an invalid board
abbrev pub board_fault_number : BoardFault → ℕ
board_fault_number BadValue = BAD_VALUE
board_fault_number NoSuchLine = NO_SUCH_LINE
board_fault_number WrongDirection = WRONG_DIRECTION
