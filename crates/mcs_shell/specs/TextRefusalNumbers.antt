-- The refusal numbers for texts.
use Rattle.std.specs.Prelude.{ℕ}
use Rattle.mcs_model.specs.declared.refusal_numbers.TheConstants.{LINE_TOO_LONG, NOT_ASCII, NO_END, TEXT_TOO_LONG}
use Rattle.mcs_shell.specs.declared.texts.TextFault.{TextFault}
use Rattle.mcs_shell.specs.declared.texts.TextFault.TheVariants.{NotAscii, LineTooLong, NoEnd, TextTooLong}

-- the refusal number for an error that does not depend on the meaning of a text's lines
abbrev pub text_fault_number : TextFault → ℕ
text_fault_number NoEnd = NO_END
text_fault_number TextTooLong = TEXT_TOO_LONG
text_fault_number LineTooLong = LINE_TOO_LONG
text_fault_number NotAscii = NOT_ASCII
