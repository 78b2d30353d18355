-- With rules that claim nothing, the invariant of a search always holds.
use Rattle.std.proofs.Common.{ℕ, List, [], get_or}
use Rattle.std.proofs.lemmas.List.Elements.{All-nil}
use Rattle.mcs_search.specs.Rules.{LeadsInto}
use Rattle.mcs_search.specs.Verdicts.{IsUnderWay, SearchProgress}
use Rattle.test_search.specs.Wheels.{trivial_rules}

pub trivial_rules_under_way : (n : ℕ) (p : SearchProgress) → IsUnderWay (trivial_rules n) p
trivial_rules_under_way n p = record {
  states = λ k d h. tt;
  expanded = λ k h. ([], tt, All-nil (LeadsInto (trivial_rules n) p.states (get_or p.states k [])));
}
