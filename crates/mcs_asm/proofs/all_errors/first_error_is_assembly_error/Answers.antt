use Rattle.mcs_asm.proofs.ErrorLists.{first_listed_error_of_text}
use Rattle.mcs_asm.proofs.all_errors.first_error_is_assembly_error.Goals as goal

pub returns : goal.returns
returns c = λ text. first_listed_error_of_text text
