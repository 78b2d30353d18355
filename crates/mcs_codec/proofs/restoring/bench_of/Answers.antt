use Rattle.mcs_codec.proofs.StateCodec.{not_encoded_in_any_version}
use Rattle.mcs_codec.proofs.restoring.bench_of.Goals as goal

pub returns-in-None-clause-none : goal.returns-in-None-clause-none
returns-in-None-clause-none c = not_encoded_in_any_version c.args.bytes.now (rw c.in-None.is at c.in_ok-bench.ensures.none)
