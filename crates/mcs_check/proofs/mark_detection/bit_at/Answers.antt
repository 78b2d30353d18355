use Rattle.std.proofs.Common.{sym, arith}
use Rattle.mcs_check.proofs.Matrices.{high-bit-zero}
use Rattle.mcs_check.proofs.mark_detection.bit_at.Goals as goal

pub returns-else-k-lt4 : goal.returns-else-k-lt4
returns-else-k-lt4 c = sym (high-bit-zero c.args.n c.args.k (omega arith) (omega arith))
