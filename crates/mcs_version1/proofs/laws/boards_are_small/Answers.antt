use Rattle.mcs_version1.proofs.Limits.{valid-board-if-valid-in-version-1, valid-in-version-1-if-small, small-board-if-valid-in-version-1}
use Rattle.mcs_version1.proofs.laws.boards_are_small.Goals as goal

pub returns : goal.returns
returns c = λ b. (λ h. (valid-board-if-valid-in-version-1 b h, small-board-if-valid-in-version-1 b h), λ h. valid-in-version-1-if-small b h.0 h.1)
