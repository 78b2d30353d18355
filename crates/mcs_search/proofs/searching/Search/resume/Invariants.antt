use Rattle.std.proofs.Common.{◌≡◌}
use Rattle.mcs_search.specs.Verdicts.{IsUnderWay, start_of}
use Rattle.mcs_search.proofs.searching.Search.resume.Given as goal

abbrev pub invariant-loop : goal.invariant-loop
invariant-loop g l = record {
  setting : g.S.System.setting l.system ≡ g.S.System.setting l.fn.system;
  under_way : IsUnderWay (g.S.System.rules (g.S.System.setting l.fn.system)) l.self;
  start : start_of l.self ≡ start_of l.fn.self;
}
