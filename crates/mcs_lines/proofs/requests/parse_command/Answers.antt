use Rattle.std.proofs.Common.{rules}
use Rattle.mcs_lines.proofs.requests.parse_command.Goals as goal

pub returns-in-Some-next_word-2 : goal.returns-in-Some-next_word-2
returns-in-Some-next_word-2 c = search rules
