use Rattle.std.proofs.Common.{◌∙◌, sym}
use Rattle.mcs_wiring.proofs.NeverNoMemory.{never_no_memory}
use Rattle.mcs_wiring.proofs.reading.board_of.Goals as goal

pub returns-in-Ok-clause-memory : goal.returns-in-Ok-clause-memory
returns-in-Ok-clause-memory c = λ e. absurd (never_no_memory _ (sym c.board_of_table.ensures ∙ e))
