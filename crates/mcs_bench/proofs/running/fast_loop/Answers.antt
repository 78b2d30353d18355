use Rattle.std.proofs.Common.{◌≡◌, ◌≢◌, ℕ, ◌<◌, ◌-◌, ◌∙◌, false, Some, sym, ap, subst, arith}
use Rattle.mcs_model.specs.Listed.{is_listed}
use Rattle.mcs_bench.specs.Runs.{RunStopsAt, PredictsWatchChange, debug_stop_of}
use Rattle.mcs_model.specs.declared.regs.Regs.{Regs}
use Rattle.mcs_model.specs.Running.{Machine, StopConditions}
use Rattle.mcs_bench.proofs.Runs.{RunInvariant, invariant-at-start, invariant-after-second-cycle, stop-after-second-cycle, run-reaches-from-invariant, invariant-after-instruction, at_break-after-first-cycle, no-debug-stop-at-unlisted-address, watch-changes-as-predicted}
use Rattle.mcs_bench.proofs.running.fast_loop.Goals as goal
use Rattle.mcs_bench.proofs.running.fast_loop.Goals.{then-n-gt0+then-regs-eq1+in_default, else-n-gt0, else-n-gt0-via-then-n-gt0+else-regs-eq1, else-n-gt0-via-else-n-gt0}

pub returns-in-Some : goal.returns-in-Some
returns-in-Some g c =
    let stops : StopConditions = record { breaks = c.args.breaks.now; watches = c.args.watches.now } in
    let s : Machine = (c.args.cpu.now, c.args.rig.now) in
    let counter : ℕ = c.regs-at.result.pc in
    let counter_is_pc : counter ≡ c.args.cpu.now.pc = ap (λ (r : Regs). r.pc) c.regs-at.ensures.same in
    let owed : c.args.cpu.now.owed ≡ 1 = sym (ap (λ (r : Regs). r.owed) c.regs.ensures.same) ∙ c.if-regs-eq1.true in
    let on = ap (λ p. debug_stop_of (is_listed c.args.breaks.now p) false) counter_is_pc ∙ sym c.run_second_cycle.ensures.mark ∙ c.in-Some.is in
    subst (λ (r : Regs). RunStopsAt stops c.args.n s (record r { pc = counter }, c.args.rig.now) 1 (Some c.in-Some.why)) (sym c.run_second_cycle.ensures.state)
    (stop-after-second-cycle stops c.args.n s counter c.in-Some.why c.if-n-gt0.true owed counter_is_pc on)

pub loop-left-init : goal.loop-left-init
loop-left-init g c =
    let stops : StopConditions = record { breaks = c.args.breaks.now; watches = c.args.watches.now } in
    let s : Machine = (c.args.cpu.now, c.args.rig.now) in
    let counter : ℕ = c.regs-at.result.pc in
    let counter_is_pc : counter ≡ c.args.cpu.now.pc = ap (λ (r : Regs). r.pc) c.regs-at.ensures.same in
    elim c.if-n-gt0.branch [
      | then-n-gt0+then-regs-eq1+in_default w ↦ (
          let owed : c.args.cpu.now.owed ≡ 1 = sym (ap (λ (r : Regs). r.owed) w.regs.ensures.same) ∙ w.if-regs-eq1.true in
          let off = ap (λ p. debug_stop_of (is_listed c.args.breaks.now p) false) counter_is_pc ∙ sym w.run_second_cycle.ensures.mark ∙ w.in_default.is in
          let first = invariant-after-second-cycle stops c.args.n s counter w.if-n-gt0.true owed counter_is_pc off in
          subst (λ l. RunInvariant stops c.args.n l s (record c.if-n-gt0.cpu { pc = counter }, c.args.rig.now)) (sym w.left-is)
          (subst (λ (r : Regs). RunInvariant stops c.args.n (c.args.n - 1) s (record r { pc = counter }, c.args.rig.now)) (sym (w.cpu-is ∙ w.run_second_cycle.ensures.state)) first))
      | else-n-gt0 w ↦ (
          let free : 0 < c.args.n → c.args.cpu.now.owed ≢ 1 = λ some owed. elim w.else-n-gt0.branch [
            | else-n-gt0-via-then-n-gt0+else-regs-eq1 v ↦ v.if-regs-eq1.false (ap (λ (r : Regs). r.owed) v.regs.ensures.same ∙ owed)
            | else-n-gt0-via-else-n-gt0 v ↦ absurd (let none = v.if-n-gt0.false in omega arith)
          ] in
          subst (λ l. RunInvariant stops c.args.n l s (record c.if-n-gt0.cpu { pc = counter }, c.args.rig.now)) (sym w.left-is)
          (subst (λ (r : Regs). RunInvariant stops c.args.n c.args.n s (record r { pc = counter }, c.args.rig.now)) (sym w.cpu-is) (invariant-at-start stops c.args.n s counter free counter_is_pc)))
    ]

pub returns-then-contains : goal.returns-then-contains
returns-then-contains g c =
    let stops : StopConditions = record { breaks = c.args.breaks.now; watches = c.args.watches.now } in
    let s : Machine = (c.args.cpu.now, c.args.rig.now) in
    let t : Machine = (record c.loop-left.cpu { pc = c.loop-left.at }, c.loop-left.rig) in
    let u : Machine = (record c.run_instruction-next.new.cpu { pc = c.run_instruction-next.result.0 }, c.run_instruction-next.new.rig) in
    let ran = c.run_instruction-next.ensures.ran in
    let fits = c.loop-left.invariant.fits in
    let within = ran.within in
    let more : 1 < c.loop-left.left = c.loop-left-test.true in
    let some : 0 < c.run_instruction-next.result.1 = c.run_instruction-next.ensures.goes in
    let later : 0 < c.args.n - (c.loop-left.left - c.run_instruction-next.result.1) = omega arith in
    let predicted : PredictsWatchChange c.args.watches.now t false = subst (PredictsWatchChange c.args.watches.now t) c.if-op_changes_watch_if.false c.op_changes_watch_if.ensures in
    let watch_changes = watch-changes-as-predicted c.args.watches.now c.loop-left.left c.run_instruction-next.result.1 t u false ran (c.loop-left.invariant.free (omega arith)) predicted in
    let at = ap (λ b. debug_stop_of b false) (at_break-after-first-cycle c.args.breaks.now (c.args.n - (c.loop-left.left - c.run_instruction-next.result.1)) u later) in
    run-reaches-from-invariant stops c.args.n c.loop-left.left c.run_instruction-next.result.1 s t u false c.debug_stop_at.result c.loop-left.invariant ran watch_changes (omega arith) some c.run_instruction-next.ensures.owes (at ∙ sym c.debug_stop_at.ensures.mark)

pub loop-left-preserved : goal.loop-left-preserved
loop-left-preserved g c =
    let stops : StopConditions = record { breaks = c.args.breaks.now; watches = c.args.watches.now } in
    let s : Machine = (c.args.cpu.now, c.args.rig.now) in
    let t : Machine = (record c.loop-left.cpu { pc = c.loop-left.at }, c.loop-left.rig) in
    let u : Machine = (record c.run_instruction-next.new.cpu { pc = c.run_instruction-next.result.0 }, c.run_instruction-next.new.rig) in
    let ran = c.run_instruction-next.ensures.ran in
    let more : 1 < c.loop-left.left = c.loop-left-test.true in
    let some : 0 < c.run_instruction-next.result.1 = c.run_instruction-next.ensures.goes in
    let predicted : PredictsWatchChange c.args.watches.now t false = subst (PredictsWatchChange c.args.watches.now t) c.if-op_changes_watch_if.false c.op_changes_watch_if.ensures in
    let watch_changes = watch-changes-as-predicted c.args.watches.now c.loop-left.left c.run_instruction-next.result.1 t u false ran (c.loop-left.invariant.free (omega arith)) predicted in
    let unlisted : is_listed c.args.breaks.now u.0.pc ≡ false = sym c.contains.ensures ∙ c.if-contains.false in
    invariant-after-instruction stops c.args.n c.loop-left.left c.run_instruction-next.result.1 s t u false c.loop-left.invariant ran watch_changes (omega arith) some c.run_instruction-next.ensures.owes (no-debug-stop-at-unlisted-address c.args.breaks.now _ u unlisted)

pub returns-then-op_changes_watch_if : goal.returns-then-op_changes_watch_if
returns-then-op_changes_watch_if g c = c.loop-left.invariant.continues

pub returns-in-None : goal.returns-in-None
returns-in-None g c = c.loop-left.invariant.continues

pub returns : goal.returns
returns g c = c.loop-left.invariant.continues
