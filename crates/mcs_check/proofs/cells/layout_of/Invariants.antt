use Rattle.std.proofs.Common.{◌<◌, ℕ}
use Rattle.mcs_check.specs.declared.cells.CellList.TheVariants.{Chain}
use Rattle.mcs_check.specs.Cells.{ContainsCellsOf}
use Rattle.mcs_check.proofs.cells.layout_of.Given as goal

abbrev pub invariant-loop-n : goal.invariant-loop-n
invariant-loop-n l = (m : ℕ) → m < l.n → ContainsCellsOf l.board l.layout.items (Chain m)
