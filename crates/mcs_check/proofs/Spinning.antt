-- The passes of an ISZ that jumps to itself.
use Rattle.std.proofs.Common.{◌≡◌, ◌<◌, ℕ, ◌+◌, ◌-◌, ◌*◌, ◌%◌, zero, suc, Bool, true, false, not, cond, ◌&&◌, List, [], Option, Some, None, unwrap_or, length, slice_get, slice_set, refl, sym, ap, ◌∙◌, subst, arith, eqb}
use Rattle.std.proofs.lemmas.Bool.{and_right, cond-false, ne_eqb}
use Rattle.std.proofs.lemmas.List.{get_or-set_same, set-get_or, set-set}
use Rattle.mcs_model.specs.declared.regs.Regs.{Regs}
use Rattle.mcs_model.specs.declared.op.Op.{Op}
use Rattle.mcs_model.specs.declared.op.Op.TheVariants.{Isz}
use Rattle.mcs_model.specs.Bus.{BusState, fetch_of}
use Rattle.mcs_model.specs.Effect.{address_on_page_of, after_fetch, cycle_of, effect, instruction_at, registers_after, with_pc_on_page}
use Rattle.mcs_model.specs.Levels.{port_of}
use Rattle.mcs_model.specs.Registers.{register_of, with_register}
use Rattle.mcs_drive.specs.declared.marks.Mark.{Mark}
use Rattle.mcs_drive.specs.InputReads.{reads_input}
use Rattle.mcs_drive.specs.Marks.{shows}
use Rattle.mcs_drive.specs.TrackedMachine.{Counts, Observer, TrackedMachine, begins_at, calls_after, counts_after, cycled, elapsed_after, ends_at, next_reads_input, machine_in, seen_count_after, next_op, open_calls_after, condition_holds_at, without_levels, seen_mark_count, seen_after, stopwatch_after}
use Rattle.mcs_drive.proofs.SeenMarkLemmas.{mark_satisfies}
use Rattle.mcs_drive.proofs.Tracking.{with_counts}
use Rattle.mcs_check.specs.declared.conditions.Condition.{Condition}
use Rattle.mcs_check.specs.declared.scope.Scope.{Scope}
use Rattle.mcs_check.specs.Conditions.{meets_none}
use Rattle.mcs_check.specs.Mistaken.{op_makes_mistake}
use Rattle.mcs_check.specs.Scopes.{all_mistakes, cycle_may_change_scope, makes_mistake_in_scope, has_all_lists, has_register}
use Rattle.mcs_check.specs.ReadPoints.{HasSpun, IsObserverIdle, Spins}
use Rattle.mcs_check.proofs.Going.{RunSoFar, walked-more}
use Rattle.mcs_check.proofs.Scoping.{AgreesInScope, IsBeginningCovered, meets_none_without_mistakes, keeps-same, meets_none_without_mistakes-if_meets_none, meets_none-if_no_mistake, register_unchanged-by_set_outside_scope}

-- the machine with `v` in register `r` before a pass
abbrev pub before_pass : ℕ → ℕ → TrackedMachine → TrackedMachine
before_pass r v s = (with_register s.0 r v, s.1, s.2)

-- the machine with `v` in register `r` between the two cycles of a pass
abbrev pub within_pass : ℕ → ℕ → TrackedMachine → TrackedMachine
within_pass r v s = (record s.0 { r = slice_set s.0.r r v; owed = 1 }, s.1, s.2)

module _ (w : Observer) where
  -- holds if the register of an ISZ that jumps to itself is not in the scope, and the ISZ makes no
  -- mistake
  record SpinsOutsideScope (c : Scope) (r : ℕ) (s : TrackedMachine) : Type 0 where
    spins : Spins w r s
    unseen : has_register c r ≡ false
    sound : makes_mistake_in_scope c s ≡ false
    beginning : IsBeginningCovered w c

  left-alone : (c : Scope) (r : ℕ) (s : TrackedMachine) → Spins w r s → cycle_may_change_scope c (next_op s.0 s.1) ≡ false → makes_mistake_in_scope c s ≡ false → IsBeginningCovered w c → SpinsOutsideScope c r s
  left-alone c r s spins rest sound beginning =
      let free : eqb s.0.owed 1 ≡ false = ap (λ (n : ℕ). eqb n 1) spins.free in
      let next : next_op s.0 s.1 ≡ Some (Isz r spins.word) = cond-false (eqb s.0.owed 1) None (instruction_at s.0 s.1) free ∙ spins.next in
      record { spins = spins; unseen = ap (cycle_may_change_scope c) (sym next) ∙ rest; sound = sound; beginning = beginning }

  -- ---- the two cycles of a pass

  isz-registers : (s : Regs) (m : BusState) (r v u : ℕ) → r < length s.r → v < 15 → address_on_page_of ((s.pc + 2) % 4096) u ≡ s.pc →
      registers_after (Isz r u) (after_fetch (Isz r u) (with_register s r v)) m ≡ record s { r = slice_set s.r r (v + 1); owed = 1 }
  isz-registers s m r v u within small back =
      let x = after_fetch (Isz r u) (with_register s r v) in
      let n = (register_of x r + 1) % 16 in
      let there : register_of x r ≡ v = get_or-set_same s.r r v 0 within in
      let count : n ≡ v + 1 = omega arith in
      cond-false (eqb n 0) (with_register x r n) (with_pc_on_page (with_register x r n) u) (ne_eqb n 0 (omega arith))
      ∙ ap (λ (k : ℕ). with_pc_on_page (with_register x r k) u) count
      ∙ ap (λ (xs : List ℕ). record s { r = xs; pc = address_on_page_of ((s.pc + 2) % 4096) u; owed = 1 }) (set-set s.r r v (v + 1))
      ∙ ap (λ (a : ℕ). record s { r = slice_set s.r r (v + 1); pc = a; owed = 1 }) back

  pub still-shows : (n : ℕ) (begins ends : Bool) → n ≡ 0 → begins ≡ false → stopwatch_after n begins ends ≡ n
  still-shows n begins ends stopwatch_at_zero never = rw (stopwatch_at_zero, never) refl

  still-marks : (marks : List Mark) (seen : ℕ) (opens : Bool) (p : Mark → Bool) → seen ≡ 0 → opens ≡ false → marks ≡ [] →
      seen_count_after (length marks) seen opens (mark_satisfies (slice_get marks (seen_mark_count (length marks) seen)) p) ≡ seen
  still-marks marks seen opens p unseen closed unmarked = rw (unseen, closed, unmarked) refl

  still-sees : (s : TrackedMachine) → IsObserverIdle w s → seen_after w s ≡ s.2.seen
  still-sees s still = still-marks w.marks s.2.seen (condition_holds_at w s) (shows (next_op s.0 s.1) s.1 (port_of s.1)) still.unseen (still.closed (without_levels s)) still.unmarked

  -- if the observer is idle, a cycle that leaves the number of open calls unchanged leaves all
  -- counts unchanged
  counts-rest : (s : TrackedMachine) → IsObserverIdle w s → open_calls_after s.0 s.1 s.2.calls ≡ s.2.calls → counts_after w s ≡ s.2
  counts-rest s still calls =
      ap (λ (n : ℕ). record s.2 { calls = n; elapsed = elapsed_after w s; seen = seen_after w s }) calls
      ∙ ap (λ (n : ℕ). record s.2 { elapsed = n; seen = seen_after w s }) (still-shows s.2.elapsed (begins_at w s) (ends_at w s) still.stopwatch_at_zero still.not_begun)
      ∙ ap (λ (n : ℕ). record s.2 { seen = n }) (still-sees s still)

  isz-opens : (r u n : ℕ) (b : Bool) (o : Option Op) → b ≡ false → o ≡ Some (Isz r u) → calls_after (cond b None o) n ≡ n
  isz-opens r u n b o free is = rw (free, is) refl

  first-when : (s : TrackedMachine) (r u : ℕ) (b : Bool) (o : Option Op) → b ≡ false → o ≡ Some (Isz r u) →
      with_counts s.2 (unwrap_or (cond b (Some (record s.0 { owed = 0 }, s.1)) (elim o as (λ _. Option (Regs × BusState)) [ Some op ↦ Some (effect op s.0 s.1) | None ↦ None ])) (machine_in s))
      ≡ (registers_after (Isz r u) (after_fetch (Isz r u) s.0) s.1, s.1, s.2)
  first-when s r u b o free is = rw (free, is) refl

  first-cycle : (s : TrackedMachine) (r u : ℕ) → IsObserverIdle w s → eqb s.0.owed 1 ≡ false → instruction_at s.0 s.1 ≡ Some (Isz r u) → cycled w s ≡ (registers_after (Isz r u) (after_fetch (Isz r u) s.0) s.1, s.1, s.2)
  unfolding cycle_of
  first-cycle s r u still free is =
      let t = unwrap_or (cycle_of s.0 s.1) (machine_in s) in
      ap (λ (x : Counts). with_counts x t) (counts-rest s still (isz-opens r u s.2.calls (eqb s.0.owed 1) (instruction_at s.0 s.1) free is))
      ∙ first-when s r u (eqb s.0.owed 1) (instruction_at s.0 s.1) free is

  second-cycle : (s : TrackedMachine) (r v : ℕ) → IsObserverIdle w (within_pass r v s) → s.0.owed ≡ 0 → cycled w (within_pass r v s) ≡ before_pass r v s
  unfolding cycle_of
  second-cycle s r v still free =
      let x = within_pass r v s in
      ap (λ (n : Counts). (record s.0 { r = slice_set s.0.r r v; owed = 0 }, s.1, n)) (counts-rest x still refl)
      ∙ ap (λ (n : ℕ). (record s.0 { r = slice_set s.0.r r v; owed = n }, s.1, s.2)) (sym free)

  pass-begins : (s : TrackedMachine) (r v : ℕ) → Spins w r s → IsObserverIdle w (before_pass r v s) → r < length s.0.r → v < 15 → cycled w (before_pass r v s) ≡ within_pass r (v + 1) s
  unfolding fetch_of
  pass-begins s r v spins still within small =
      let free : eqb s.0.owed 1 ≡ false = ap (λ (n : ℕ). eqb n 1) spins.free in
      first-cycle (before_pass r v s) r spins.word still free spins.next
      ∙ ap (λ (x : Regs). (x, s.1, s.2)) (isz-registers s.0 s.1 r v spins.word within small spins.back)

  -- ---- reads, scope and mistakes in a pass

  pass-quiet : (s : TrackedMachine) (r v : ℕ) → Spins w r s → next_reads_input (before_pass r v s) ≡ false
  unfolding fetch_of
  pass-quiet s r v spins = and_right (not (eqb s.0.owed 1)) (reads_input (instruction_at s.0 s.1)) (ap reads_input spins.next)

  pass-same : (c : Scope) (s : TrackedMachine) (r v : ℕ) → has_register c r ≡ false → AgreesInScope c s (before_pass r v s)
  pass-same c s r v unseen = record { seen = refl; elapsed = refl; registers = λ i seen. register_unchanged-by_set_outside_scope c s.0.r r i v unseen seen; chips = λ seen. refl }

  middle-same : (c : Scope) (s : TrackedMachine) (r v : ℕ) → has_register c r ≡ false → AgreesInScope c s (within_pass r v s)
  middle-same c s r v unseen = record { seen = refl; elapsed = refl; registers = λ i seen. register_unchanged-by_set_outside_scope c s.0.r r i v unseen seen; chips = λ seen. refl }

  -- if an observer is idle at one of two machines that have the same counts and agree in a scope,
  -- the observer is idle at both
  idle-if_agrees : (c : Scope) (s t : TrackedMachine) → IsBeginningCovered w c → AgreesInScope c s t → IsObserverIdle w s → IsObserverIdle w t
  idle-if_agrees c s t beginning same still = record {
    stopwatch_at_zero = same.elapsed ∙ still.stopwatch_at_zero;
    not_begun = sym (beginning s t same) ∙ still.not_begun;
    unseen = same.seen ∙ still.unseen;
    closed = still.closed;
    unmarked = still.unmarked;
  }

  idle-before_pass : (c : Scope) (s : TrackedMachine) (r v : ℕ) → SpinsOutsideScope c r s → IsObserverIdle w (before_pass r v s)
  idle-before_pass c s r v left = idle-if_agrees c s (before_pass r v s) left.beginning (pass-same c s r v left.unseen) left.spins.still

  idle-within_pass : (c : Scope) (s : TrackedMachine) (r v : ℕ) → SpinsOutsideScope c r s → IsObserverIdle w (within_pass r v s)
  idle-within_pass c s r v left = idle-if_agrees c s (within_pass r v s) left.beginning (middle-same c s r v left.unseen) left.spins.still

  makes_mistake_in_scope-when : (c : Scope) (s : TrackedMachine) (r v u : ℕ) (b : Bool) (o : Option Op) → o ≡ Some (Isz r u) →
      (c.mistakes && (b && elim o as (λ _. Bool) [ Some op ↦ op_makes_mistake all_mistakes op (before_pass r v s) | None ↦ true ]))
      ≡ (c.mistakes && (b && elim o as (λ _. Bool) [ Some op ↦ op_makes_mistake all_mistakes op s | None ↦ true ]))
  makes_mistake_in_scope-when c s r v u b o is = rw is refl

  pass-makes_mistake_in_scope : (c : Scope) (s : TrackedMachine) (r v : ℕ) → SpinsOutsideScope c r s → makes_mistake_in_scope c (before_pass r v s) ≡ false
  unfolding fetch_of
  pass-makes_mistake_in_scope c s r v left = makes_mistake_in_scope-when c s r v left.spins.word (not (eqb s.0.owed 1)) (instruction_at s.0 s.1) left.spins.next ∙ left.sound

  middle-makes_mistake_in_scope : (c : Scope) (s : TrackedMachine) (r v : ℕ) → makes_mistake_in_scope c (within_pass r v s) ≡ false
  middle-makes_mistake_in_scope c s r v = and_right c.mistakes false refl

  -- ---- all passes but the last

  passes : (c : Scope) (never_lists : List (List Condition)) (start s : TrackedMachine) (r : ℕ) → has_all_lists c never_lists ≡ true → SpinsOutsideScope c r s → r < length s.0.r → meets_none_without_mistakes never_lists s ≡ true →
      (k v n : ℕ) → v + k ≡ 15 → RunSoFar w (meets_none never_lists) n start (before_pass r v s) → RunSoFar w (meets_none never_lists) (n + 2 * k) start (before_pass r 15 s)
  passes c never_lists start s r has left within apart zero v n e walked =
      let same : v ≡ 15 = omega arith in
      let more : n ≡ n + 2 * 0 = omega arith in
      subst (λ (m : ℕ). RunSoFar w (meets_none never_lists) m start (before_pass r 15 s)) more
      (subst (λ (u : ℕ). RunSoFar w (meets_none never_lists) n start (before_pass r u s)) same walked)
  passes c never_lists start s r has left within apart (suc k) v n e walked =
      let property_holds-at : meets_none never_lists (before_pass r v s) ≡ true =
      meets_none-if_no_mistake c never_lists (before_pass r v s) has (sym (keeps-same c s (before_pass r v s) (pass-same c s r v left.unseen) never_lists has) ∙ apart) (pass-makes_mistake_in_scope c s r v left) in
      let property_holds-in : meets_none never_lists (within_pass r (v + 1) s) ≡ true =
      meets_none-if_no_mistake c never_lists (within_pass r (v + 1) s) has (sym (keeps-same c s (within_pass r (v + 1) s) (middle-same c s r (v + 1) left.unseen) never_lists has) ∙ apart) (middle-makes_mistake_in_scope c s r (v + 1)) in
      let half = walked-more w (meets_none never_lists) n start (before_pass r v s) (within_pass r (v + 1) s) walked property_holds-at (pass-quiet s r v left.spins) (sym (pass-begins s r v left.spins (idle-before_pass c s r v left) within (omega arith))) in
      let whole = walked-more w (meets_none never_lists) (suc n) start (within_pass r (v + 1) s) (before_pass r (v + 1) s) half property_holds-in refl (sym (second-cycle s r (v + 1) (idle-within_pass c s r (v + 1) left) left.spins.free)) in
      let more : suc (suc n) + 2 * k ≡ n + 2 * suc k = omega arith in
      subst (λ (m : ℕ). RunSoFar w (meets_none never_lists) m start (before_pass r 15 s)) more
      (passes c never_lists start s r has left within apart k (v + 1) (suc (suc n)) (omega arith) whole)

  pub spun-walked : (c : Scope) (never_lists : List (List Condition)) (n cycles : ℕ) (start s t : TrackedMachine) → IsBeginningCovered w c → has_all_lists c never_lists ≡ true → cycle_may_change_scope c (next_op s.0 s.1) ≡ false → makes_mistake_in_scope c s ≡ false → meets_none never_lists s ≡ true →
      HasSpun w cycles s t → RunSoFar w (meets_none never_lists) n start s → RunSoFar w (meets_none never_lists) (n + cycles) start t
  spun-walked c never_lists n cycles start s t beginning has rest sound property_holds spun walked =
      let r = spun.register in
      let v = register_of s.0 r in
      let left = left-alone c r s spun.spins rest sound beginning in
      let at_start : before_pass r v s ≡ s = ap (λ (xs : List ℕ). (record s.0 { r = xs }, s.1, s.2)) (set-get_or s.0.r r 0) in
      let goes : (m : ℕ) (x y : TrackedMachine) → x ≡ y → RunSoFar w (meets_none never_lists) m start x → RunSoFar w (meets_none never_lists) m start y = λ m x y e. subst (λ (z : TrackedMachine). RunSoFar w (meets_none never_lists) m start z) e in
      let whole =
      passes c never_lists start s r has left spun.within (meets_none_without_mistakes-if_meets_none never_lists s property_holds) (15 - v) v n (let few = spun.spins.few in omega arith) (goes n s (before_pass r v s) (sym at_start) walked) in
      goes (n + cycles) (before_pass r 15 s) t (sym spun.at)
      (subst (λ (m : ℕ). RunSoFar w (meets_none never_lists) (n + m) start (before_pass r 15 s)) (sym spun.count) whole)

  pub spun-apart : (c : Scope) (never_lists : List (List Condition)) (cycles : ℕ) (s t : TrackedMachine) → IsBeginningCovered w c → has_all_lists c never_lists ≡ true → cycle_may_change_scope c (next_op s.0 s.1) ≡ false → makes_mistake_in_scope c s ≡ false → meets_none never_lists s ≡ true →
      HasSpun w cycles s t → meets_none_without_mistakes never_lists t ≡ true
  spun-apart c never_lists cycles s t beginning has rest sound property_holds spun =
      let left = left-alone c spun.register s spun.spins rest sound beginning in
      ap (meets_none_without_mistakes never_lists) spun.at ∙ sym (keeps-same c s (before_pass spun.register 15 s) (pass-same c s spun.register 15 left.unseen) never_lists has) ∙ meets_none_without_mistakes-if_meets_none never_lists s property_holds
