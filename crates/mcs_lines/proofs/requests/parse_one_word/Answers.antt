use Rattle.std.proofs.Common.{rules}
use Rattle.mcs_lines.proofs.requests.parse_one_word.Goals as goal

pub returns-then-equals-12 : goal.returns-then-equals-12
returns-then-equals-12 c = search rules

pub returns-then-equals-8 : goal.returns-then-equals-8
returns-then-equals-8 c = search rules
