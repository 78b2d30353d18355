use Rattle.std.proofs.Common.{rules}
use Rattle.mcs_lines.proofs.requests.parse_list.Goals as goal

pub returns : goal.returns
returns c = search rules
