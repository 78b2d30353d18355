-- The instruction at the start of some bytes. Only the contracts of private functions cite this
-- module.
use Rattle.std.specs.Prelude.{ℕ, List, Option, drop, slice_index}
use Rattle.mcs_model.specs.declared.op.Op.{Op}
use Rattle.mcs_source.specs.Text.{op_at}

-- the instruction at the start of some bytes, or `None` if the bytes do not start with a complete
-- instruction
abbrev pub op_at_start : List ℕ → Option Op
op_at_start bytes = op_at (slice_index bytes 0) (drop 1 bytes)
