-- Rules that every state and every choice satisfies, so that the contracts of a search claim
-- nothing. The tests check the verdicts instead.
use Rattle.std.specs.Prelude.{ℕ}
use Rattle.mcs_search.specs.Rules.{Rules}

abbrev pub trivial_rules : ℕ → Rules
trivial_rules n = record {
  is_state = λ _. Unit {0};
  covers = λ _ _. Unit {0};
  leads = λ _ _ _. Unit {0};
  fails = λ _ _. Unit {0};
}
