use Rattle.std.proofs.Common.{rules}
use Rattle.mcs_lines.proofs.requests.parse_two_arguments.Goals as goal

pub returns : goal.returns
returns c = search rules

pub returns-in_err-bank : goal.returns-in_err-bank
returns-in_err-bank c = search rules
