-- The refusal numbers of the assembler's errors. (Defined by Fethsaim, not by Intel.)
use Rattle.std.specs.Prelude.{ℕ}
use Rattle.mcs_model.specs.declared.refusal_numbers.TheConstants.{NO_MEMORY}
use Rattle.mcs_source.specs.RefusalNumbers.{source_fault_number}
use Rattle.mcs_asm.specs.declared.fault.FaultKind.{FaultKind}
use Rattle.mcs_asm.specs.declared.fault.FaultKind.TheVariants.{NoMemory, Refused}

abbrev pub assembler_fault_number : FaultKind → ℕ
assembler_fault_number NoMemory = NO_MEMORY
assembler_fault_number (Refused f) = source_fault_number f
