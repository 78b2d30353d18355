use Rattle.mcs_bench.proofs.NewState.{state-of-new-bench}
use Rattle.mcs_bench.proofs.flat.Flat.new.Goals as goal

pub returns : goal.returns
returns c = state-of-new-bench c.empty.result c.in_ok-zeros.field-0 c.in_ok-zeros-2.field-0 c.in_ok-zeros-3.field-0 c.in_ok-zeros-4.field-0 c.in_ok-zeros-5.field-0 c.new.result c.new-2.result c.new-3.result c.new-4.result c.empty.ensures c.in_ok-zeros.ensures c.in_ok-zeros-2.ensures c.in_ok-zeros-3.ensures c.in_ok-zeros-4.ensures c.in_ok-zeros-5.ensures c.new.ensures c.new-2.ensures c.new-3.ensures c.new-4.ensures
