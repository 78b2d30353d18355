use Rattle.std.proofs.Common.{rules}
use Rattle.mcs_asm.proofs.passes.fault_with_line_number.Goals as goal

pub returns-in-Refused : goal.returns-in-Refused
returns-in-Refused c = search rules
