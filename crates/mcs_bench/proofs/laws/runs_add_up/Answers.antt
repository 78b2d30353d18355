use Rattle.std.proofs.Common.{◌∙◌, ◌+◌, ◌≡◌, ℕ, [], List, sym, ap}
use Rattle.mcs_model.specs.Command.{machine_of, stops_of, with_machine}
use Rattle.mcs_model.specs.Running.{StopConditions, after_run}
use Rattle.mcs_model.specs.Laws.{no_stops}
use Rattle.mcs_bench.proofs.laws.runs_add_up.Goals as goal

pub returns : goal.returns
returns c = λ s a b none unwatched.
    let m = machine_of s in
    let free : stops_of s ≡ no_stops = ap (λ (xs : List ℕ). record { breaks = xs; watches = s.watches }) none ∙ ap (λ (xs : List ℕ). record { breaks = []; watches = xs }) unwatched in
    let two = ap (λ (stops : StopConditions). after_run stops b (after_run stops a m)) free in
    let one = ap (λ (stops : StopConditions). after_run stops (a + b) m) free in
    ap (with_machine s) (two ∙ c.runs_compose.ensures m a b ∙ sym one)
