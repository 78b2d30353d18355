use Rattle.std.proofs.Common.{◌*◌}
use Rattle.mcs_check.proofs.LayoutFilling.{IsFilledTo}
use Rattle.mcs_check.proofs.cells.add_pairs.Given as goal

abbrev pub invariant-loop-pair : goal.invariant-loop-pair
invariant-loop-pair l = IsFilledTo l.board l.list (2 * l.pair) l.fn.layout.items l.layout.items
