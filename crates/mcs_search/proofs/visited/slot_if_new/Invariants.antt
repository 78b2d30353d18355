use Rattle.std.proofs.Common.{◌<◌, length}
use Rattle.mcs_search.proofs.visited.slot_if_new.Given as goal

abbrev pub invariant-loop : goal.invariant-loop
invariant-loop l = l.at < length l.slots
