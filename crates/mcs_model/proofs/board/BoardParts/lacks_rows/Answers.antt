use Rattle.std.proofs.Common.{rules}
use Rattle.mcs_model.proofs.board.BoardParts.lacks_rows.Goals as goal

pub returns-else-from-len : goal.returns-else-from-len
returns-else-from-len c = search rules
