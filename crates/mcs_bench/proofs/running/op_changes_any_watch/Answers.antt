use Rattle.std.proofs.Common.{refl, inl}
use Rattle.mcs_bench.proofs.running.op_changes_any_watch.Goals as goal

pub returns-then-is_empty : goal.returns-then-is_empty
returns-then-is_empty c = inl (inl (c.is_empty.ensures c.if-is_empty.true), refl)
