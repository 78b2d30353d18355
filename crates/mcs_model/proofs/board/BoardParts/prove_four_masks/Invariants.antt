use Rattle.std.proofs.Common.{◌≡◌, ℕ, ◌<◌, List, length, Some, None}
use Rattle.std.specs.Prelude.{slice_index_or}
use Rattle.mcs_nibble.specs.declared.lines.LineMask.{LineMask}
use Rattle.mcs_model.proofs.board.BoardParts.prove_four_masks.Given as goal

abbrev pub invariant-loop-i : goal.invariant-loop-i
invariant-loop-i l = (chip : ℕ) (mask : List LineMask) → chip < l.i → slice_index_or l.self.roms chip None ≡ Some mask → length mask ≡ 4
