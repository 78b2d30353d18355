-- The refusal numbers of rejected lines.
use Rattle.std.specs.Prelude.{ℕ}
use Rattle.mcs_model.specs.declared.refusal_numbers.TheConstants.{BAD_NUMBER, LINE_TOO_LONG, NOT_ASCII, NOT_A_COMMAND}
use Rattle.mcs_lines.specs.declared.requests.LineFault.{LineFault}
use Rattle.mcs_lines.specs.declared.requests.LineFault.TheVariants.{NotACommand, BadNumber, LineTooLong, NotAscii}

-- the refusal number for the reason why a line is rejected
abbrev pub line_fault_number : LineFault → ℕ
line_fault_number NotACommand = NOT_A_COMMAND
line_fault_number BadNumber = BAD_NUMBER
line_fault_number LineTooLong = LINE_TOO_LONG
line_fault_number NotAscii = NOT_ASCII
