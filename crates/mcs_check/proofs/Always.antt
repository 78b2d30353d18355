-- If the state vectors that a search found are a closure, the property holds for the first machine.
-- It also holds for all machines that differ from the first machine only in their input levels.
use Rattle.std.proofs.Common.{◌≡◌, ℕ, zero, suc, List, Bool, sym, ap, ◌∙◌, subst}
use Rattle.mcs_drive.specs.DrivenRuns.{AreInputsAllowed, InputLimits, Levels}
use Rattle.mcs_drive.specs.TrackedMachine.{Observer, TrackedMachine, with_levels, without_levels, cycled, driven, Holds}
use Rattle.mcs_drive.specs.RunsBetweenReads.{IgnoresLevels}
use Rattle.mcs_search.specs.Rules.{Closure}
use Rattle.mcs_check.specs.Conditions.{observer_of_property}
use Rattle.mcs_check.specs.StateVectors.{Setting, IsVectorOf, property_of}
use Rattle.mcs_check.specs.SearchRules.{rules_of}
use Rattle.mcs_check.specs.SearchStep.{IsState}
use Rattle.mcs_check.proofs.Simulating.{searched-holds}

pub property_holds-if_search_is_closed : (g : Setting) (start : List ℕ) (n : ℕ) (a : TrackedMachine) → IgnoresLevels (property_of g) → Closure (rules_of g) start n → IsVectorOf g start a → Holds g.limits (observer_of_property g.property) (property_of g) a
property_holds-if_search_is_closed g start n a ignores closure is =
    searched-holds g.limits (observer_of_property g.property) (property_of g) (IsState g) (IsVectorOf g) start n ignores (λ vector b at. record { sound = at.on.bus.board.valid; property_holds = at.property_holds })
    (record { states = closure.states; count = closure.count; contains_start = closure.contains_start; expanded = closure.expanded }) a is

driven-differs_only_in_levels : (w : Observer) (f : ℕ → Levels) (k : ℕ) (s t : TrackedMachine) → without_levels s ≡ without_levels t → without_levels (driven w f k s) ≡ without_levels (driven w f k t)
driven-differs_only_in_levels w f zero s t e = e
driven-differs_only_in_levels w f (suc k) s t e = ap (λ (m : TrackedMachine). without_levels (cycled w (with_levels (f k) m))) (driven-differs_only_in_levels w f k s t e)

pub property_holds-if_only_levels_differ : (limits : InputLimits) (w : Observer) (p : TrackedMachine → Bool) (s t : TrackedMachine) → IgnoresLevels p → without_levels s ≡ without_levels t → Holds limits w p s → Holds limits w p t
property_holds-if_only_levels_differ limits w p s t ignores e h = λ f allowed k.
    ignores (driven w f k t) ∙ ap p (sym (driven-differs_only_in_levels w f k s t e)) ∙ sym (ignores (driven w f k s))
    ∙ h f (subst (λ (m : TrackedMachine). AreInputsAllowed limits m.1.board f) (sym e) allowed) k
