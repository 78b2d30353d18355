-- The refusal numbers of source text errors. (Defined by Fethsaim, not by Intel.)
use Rattle.std.specs.Prelude.{ℕ}
use Rattle.mcs_model.specs.declared.refusal_numbers.TheConstants.{BAD_STATEMENT, DOUBLE_NAME, UNKNOWN_NAME, OUT_OF_RANGE, WRONG_PAGE, OVERLAP, PAST_END, TOO_MANY_NAMES}
use Rattle.mcs_source.specs.declared.fault.SourceFault.{SourceFault}
use Rattle.mcs_source.specs.declared.fault.SourceFault.TheVariants.{BadStatement, DoubleName, UnknownName, OutOfRange, WrongPage, Overlap, PastEnd, TooManyNames}

abbrev pub source_fault_number : SourceFault → ℕ
source_fault_number BadStatement = BAD_STATEMENT
source_fault_number DoubleName = DOUBLE_NAME
source_fault_number UnknownName = UNKNOWN_NAME
source_fault_number OutOfRange = OUT_OF_RANGE
source_fault_number WrongPage = WRONG_PAGE
source_fault_number Overlap = OVERLAP
source_fault_number PastEnd = PAST_END
source_fault_number TooManyNames = TOO_MANY_NAMES
