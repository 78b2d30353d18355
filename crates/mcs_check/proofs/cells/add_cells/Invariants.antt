use Rattle.mcs_check.proofs.LayoutFilling.{IsFilledTo}
use Rattle.mcs_check.proofs.cells.add_cells.Given as goal

abbrev pub invariant-loop-index : goal.invariant-loop-index
invariant-loop-index l = IsFilledTo l.board l.list l.index l.fn.layout.items l.layout.items
