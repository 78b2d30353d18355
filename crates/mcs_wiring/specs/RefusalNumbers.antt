-- The refusal numbers for board texts. (Defined by Fethsaim, not by Intel.)
use Rattle.std.specs.Prelude.{ℕ}
use Rattle.mcs_model.specs.declared.board.BoardFault.{BoardFault}
use Rattle.mcs_model.specs.declared.board.BoardFault.TheVariants as board
use Rattle.mcs_model.specs.declared.refusal_numbers.TheConstants.{BAD_TOML, UNKNOWN_KEY, MISSING_KEY, BAD_VALUE, DOUBLE_CHIP, NO_SUCH_LINE, WRONG_DIRECTION, TOO_MANY_PARTS, NO_MEMORY}
use Rattle.mcs_wiring.specs.declared.fault.WiringFault.{WiringFault}
use Rattle.mcs_wiring.specs.declared.fault.WiringFault.TheVariants.{BadToml, UnknownKey, MissingKey, BadValue, DoubleChip, NoSuchLine, WrongDirection, TooManyParts, NoMemory}

abbrev pub wiring_fault_number : WiringFault → ℕ
wiring_fault_number BadToml = BAD_TOML
wiring_fault_number UnknownKey = UNKNOWN_KEY
wiring_fault_number MissingKey = MISSING_KEY
wiring_fault_number BadValue = BAD_VALUE
wiring_fault_number TooManyParts = TOO_MANY_PARTS
wiring_fault_number DoubleChip = DOUBLE_CHIP
wiring_fault_number NoSuchLine = NO_SUCH_LINE
wiring_fault_number WrongDirection = WRONG_DIRECTION
wiring_fault_number NoMemory = NO_MEMORY

-- the error of a board text (`WiringFault`) that corresponds to an error in the parts of a board
-- (`BoardFault`)
abbrev pub refusal_of : BoardFault → WiringFault
refusal_of board.BadValue = BadValue
refusal_of board.NoSuchLine = NoSuchLine
refusal_of board.WrongDirection = WrongDirection
