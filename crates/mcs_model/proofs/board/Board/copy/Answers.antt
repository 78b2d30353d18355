use Rattle.std.proofs.Common.{◌≡◌, subst, sym, None}
use Rattle.mcs_model.specs.declared.board.BoardParts.{BoardParts}
use Rattle.mcs_model.specs.Boards.{board_fault_of, HasDeclaredLengths}
use Rattle.mcs_model.proofs.board.Board.copy.Goals as goal

pub invariant_of-result : goal.invariant_of-result
invariant_of-result c = subst (λ (b : BoardParts). (board_fault_of b ≡ None) × HasDeclaredLengths b) (sym c.copy.ensures) c.self.invariant
