use Rattle.std.proofs.Common.{◌<◌, ◌⊎◌, ℕ}
use Rattle.std.specs.List.{Contains}
use Rattle.mcs_check.specs.ReadPoints.{CannotRead}
use Rattle.mcs_check.proofs.search_step.push_readable_values.Given as goal

abbrev pub invariant-loop-value : goal.invariant-loop-value
invariant-loop-value l = (v : ℕ) → v < l.value → CannotRead l.limits v l.replica ⊎ Contains l.into.items v
