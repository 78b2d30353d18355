-- Conditions under which a run continues, at its start and after a cycle.
use Rattle.std.proofs.Common.{◌≡◌, ℕ, ◌<◌, Bool, true, false, cond, Some, None, refl, arith, eqb, nat_lt}
use Rattle.std.proofs.lemmas.Bool.Decides.{nat_tests}
use Rattle.mcs_model.specs.declared.stop.Stop.TheVariants.{Outside, Breakpoint, Watched, Ended}
use Rattle.mcs_model.specs.Running.{Machine, StopConditions, is_outside_table, stop_reason_at}
use Rattle.mcs_bench.proofs.Writes.{no-watch-changed-if-ram-equal}
use Rattle.mcs_probe.specs.Forecast.{early_stop_reason}

-- a run of at most `n` cycles, with `n` above 0, does not stop at its start if the machine can
-- execute a cycle
pub no_stop_reason-at_start : (stops : StopConditions) (n : ℕ) (s : Machine) → 0 < n → is_outside_table s ≡ false → stop_reason_at stops n 0 s s ≡ None
no_stop_reason-at_start stops n s l inside =
    let no_watch_changed = no-watch-changed-if-ram-equal stops.watches s s refl in
    let not_at_end : eqb 0 n ≡ false = grind (arith, nat_tests) in
    rw (inside, no_watch_changed, not_at_end) refl

stop_reason-if_not_ended : (out at_breakpoint changed ended : Bool) → ended ≡ false → cond out (Some Outside) (cond at_breakpoint (Some Breakpoint) (cond changed (Some Watched) (cond ended (Some Ended) None))) ≡ cond out (Some Outside) (cond at_breakpoint (Some Breakpoint) (cond changed (Some Watched) None))
stop_reason-if_not_ended out at_breakpoint changed true e = absurd (cc)
stop_reason-if_not_ended out at_breakpoint changed false e = refl

-- before its last cycle, a run stops only for the reasons of `early_stop_reason`
pub stop_reason-before_last_cycle : (stops : StopConditions) (n k : ℕ) (s t : Machine) → 0 < k → k < n → stop_reason_at stops n k s t ≡ early_stop_reason stops s t
stop_reason-before_last_cycle stops n k s t some l =
    let after_start : nat_lt 0 k ≡ true = grind (arith, nat_tests) in
    let ended : eqb k n ≡ false = grind (arith, nat_tests) in
    rw (after_start, ended) refl
