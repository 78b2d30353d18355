use Rattle.std.proofs.Common.{rules}
use Rattle.mcs_model.proofs.board.Board.of.Goals as goal

pub returns-in-None : goal.returns-in-None
returns-in-None c = search rules
