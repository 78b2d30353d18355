use Rattle.std.proofs.Common.{refl}
use Rattle.mcs_shell.specs.TextMeanings.{meaning_of_text}
use Rattle.mcs_shell.proofs.laws.an_error_report_requests_no_command.Goals as goal

pub returns : goal.returns
unfolding meaning_of_text
returns c = λ text. refl
