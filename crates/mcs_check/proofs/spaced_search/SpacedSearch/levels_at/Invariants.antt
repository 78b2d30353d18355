use Rattle.std.specs.List.{All, Contains}
use Rattle.mcs_check.proofs.spaced_search.SpacedSearch.levels_at.Given as goal

abbrev pub invariant-loop-index : goal.invariant-loop-index
invariant-loop-index l = All (Contains l.self.levels) l.found.items
