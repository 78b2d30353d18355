use Rattle.std.proofs.Common.{◌≡◌, ◌≤◌, ℕ, slice_index, below_more}
use Rattle.mcs_check.proofs.last_vector.bytes_that_may_differ.Goals as goal

pub loop-i-preserved : goal.loop-i-preserved
loop-i-preserved c = λ k from below.
    below_more (λ (j : ℕ). c.args.front ≤ j → slice_index c.args.last.now j ≡ slice_index c.args.vector.now j) c.loop-i.i
    (λ j l from. c.loop-i.invariant j from l) (λ _. c.if-last-i.false) k below from
