use Rattle.std.proofs.Common.{rules}
use Rattle.mcs_model.proofs.board.BoardParts.fault.Goals as goal

pub returns-then-lacks_line : goal.returns-then-lacks_line
returns-then-lacks_line c = search rules
