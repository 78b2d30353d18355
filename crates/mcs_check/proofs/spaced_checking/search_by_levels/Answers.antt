use Rattle.std.proofs.Common.{◌≡◌, ◌∙◌, ◌++◌, Option, IfSome, Vec, Global, length, subst, arith}
use Rattle.std.specs.List.{All, Contains}
use Rattle.mcs_model.specs.declared.board.BoardParts.{BoardParts}
use Rattle.mcs_model.specs.Boards.{key_count}
use Rattle.mcs_drive.specs.DrivenRuns.{Levels}
use Rattle.mcs_search.specs.Verdicts.{IsProved}
use Rattle.mcs_check.specs.LevelSets.{AreAllAllowedLevels}
use Rattle.mcs_check.specs.SpacedInputs.{SpacedSetting, spaced_rules}
use Rattle.mcs_check.proofs.SpacedOutcome.{allowed-if_levels_of_search, first_bytes, holds-by_spaced_search, is_state-of_first_timed_vector}
use Rattle.mcs_check.proofs.spaced_checking.search_by_levels.Goals as goal

pub search_all-requires-clause-start : goal.search_all-requires-clause-start
search_all-requires-clause-start c =
    let h : SpacedSetting = record { machines = c.args.machines; wait = c.min-wait.result; levels = c.in-Some.levels.items } in
    let start : c.deref.result.now ≡ c.args.vector.now ++ first_bytes = c.deref.ensures.value ∙ c.in_ok-start.ensures in
    is_state-of_first_timed_vector h c.args.vector.now c.deref.result.now start c.requires.state

pub returns-in-Broken : goal.returns-in-Broken
returns-in-Broken c = λ a at.
    let g = c.args.machines in
    let h : SpacedSetting = record { machines = g; wait = c.min-wait.result; levels = c.in-Some.levels.items } in
    let all = subst (λ (found : Option (Vec Levels Global)). IfSome found (λ all. (b : BoardParts) → key_count b ≡ length g.limits.keys → AreAllAllowedLevels g.limits b all.items))
    c.in-Some.is c.in_ok-levels.ensures.all in
    let found = c.in_ok-levels_at-in-Broken.field-0.items in
    let inside : All (Contains h.levels) found = subst (λ (w : SpacedSetting). All (Contains w.levels) found) c.search_all.ensures.setting c.in_ok-levels_at-in-Broken.ensures in
    allowed-if_levels_of_search h c.args.vector.now a found all inside at

pub returns-in-Holds : goal.returns-in-Holds
returns-in-Holds c = λ a at.
    let h : SpacedSetting = record { machines = c.args.machines; wait = c.min-wait.result; levels = c.in-Some.levels.items } in
    let start : c.deref.result.now ≡ c.args.vector.now ++ first_bytes = c.deref.ensures.value ∙ c.in_ok-start.ensures in
    let g = c.args.machines in
    let all = subst (λ (found : Option (Vec Levels Global)). IfSome found (λ all. (b : BoardParts) → key_count b ≡ length g.limits.keys → AreAllAllowedLevels g.limits b all.items))
    c.in-Some.is c.in_ok-levels.ensures.all in
    holds-by_spaced_search h c.args.vector.now c.deref.result.now c.in-Holds.states a (omega arith) all start
    (subst (IsProved (spaced_rules h) c.deref.result.now) c.in-Holds.is c.in_ok-states.ensures.proved) at
