-- If two tracked machines differ only in their input levels, they still differ only in these levels
-- until one of them reads an input.
use Rattle.std.proofs.Common.{◌≡◌, ◌<◌, ◌≤◌, ℕ, zero, suc, Bool, false, None, refl, sym, ap, ◌∙◌, arith}
use Rattle.mcs_model.specs.Boards.{board_fault_of}
use Rattle.mcs_model.specs.Bus.{fetch_of}
use Rattle.mcs_drive.specs.DrivenRuns.{Levels}
use Rattle.mcs_drive.specs.TrackedMachine.{Observer, TrackedMachine, with_levels, without_levels, cycled, after_cycles, next_reads_input, value_read}
use Rattle.mcs_drive.specs.RunsBetweenReads.{IgnoresLevels, LeadsTo}
use Rattle.mcs_drive.proofs.Tracking.{cycled-with_levels-if-no-read, cycled-decided-by-value-read}
use Rattle.mcs_drive.proofs.ReadPoints.{cycle-board, cycles-board}

levels_of : TrackedMachine → Levels
levels_of s = record { keys = s.1.keys; test = s.1.test }

next_reads_input-without_levels : (s : TrackedMachine) → next_reads_input (without_levels s) ≡ next_reads_input s
unfolding fetch_of
next_reads_input-without_levels s = refl

module _ (w : Observer) where
  -- if a cycle reads no input, the input levels before the cycle affect only the input levels after
  -- the cycle
  cycle-without_levels : (s : TrackedMachine) → board_fault_of s.1.board ≡ None → next_reads_input s ≡ false → without_levels (cycled w s) ≡ without_levels (cycled w (without_levels s))
  unfolding levels_of
  cycle-without_levels s v quiet = ap without_levels (cycled-with_levels-if-no-read w (levels_of s) (without_levels s) v (next_reads_input-without_levels s ∙ quiet))

  pub run-alike : (n : ℕ) (s t : TrackedMachine) → board_fault_of s.1.board ≡ None → without_levels s ≡ without_levels t → ((i : ℕ) → i < n → next_reads_input (after_cycles w i s) ≡ false) → without_levels (after_cycles w n s) ≡ without_levels (after_cycles w n t)
  run-alike zero s t v e quiet = e
  run-alike (suc n) s t v e quiet =
      let x = after_cycles w n s in
      let y = after_cycles w n t in
      let ago = run-alike n s t v e (λ i h. quiet i (omega arith)) in
      let still = quiet n (omega arith) in
      let sound = ap board_fault_of (cycles-board w n s) ∙ v in
      let board : y.1.board ≡ x.1.board = ap (λ (m : TrackedMachine). m.1.board) (sym ago) in
      let quiet-y : next_reads_input y ≡ false = sym (next_reads_input-without_levels y) ∙ ap next_reads_input (sym ago) ∙ next_reads_input-without_levels x ∙ still in
      cycle-without_levels x sound still ∙ ap (λ (m : TrackedMachine). without_levels (cycled w m)) ago ∙ sym (cycle-without_levels y (ap board_fault_of board ∙ sound) quiet-y)

  -- `suc i` cycles are one cycle, followed by `i` cycles
  pub after_cycles-first : (i : ℕ) (s : TrackedMachine) → after_cycles w (suc i) s ≡ after_cycles w i (cycled w s)
  after_cycles-first zero s = refl
  after_cycles-first (suc i) s = ap (cycled w) (after_cycles-first i s)

  pub leads-if_same_read : (p : TrackedMachine → Bool) (a b : TrackedMachine) (l m : Levels) → IgnoresLevels p → board_fault_of a.1.board ≡ None → value_read l a ≡ value_read m a → LeadsTo w p a b m → LeadsTo w p a b l
  leads-if_same_read p a b l m ignores v same to =
      let s = cycled w (with_levels m a) in
      let t = cycled w (with_levels l a) in
      let first : without_levels s ≡ without_levels t = sym (cycled-decided-by-value-read w l m a v same) in
      let sound : board_fault_of s.1.board ≡ None = ap board_fault_of (cycle-board w (with_levels m a)) ∙ v in
      let quiet : (i : ℕ) → i < to.more → next_reads_input (after_cycles w i s) ≡ false = λ i h. ap next_reads_input (sym (after_cycles-first i (with_levels m a))) ∙ to.quiet i h in
      let alike : (i : ℕ) → i ≤ to.more → without_levels (after_cycles w (suc i) (with_levels m a)) ≡ without_levels (after_cycles w (suc i) (with_levels l a)) = λ i h. ap without_levels (after_cycles-first i (with_levels m a)) ∙ run-alike i s t sound first (λ j k. quiet j (omega arith)) ∙ sym (ap without_levels (after_cycles-first i (with_levels l a))) in
      record {
        more = to.more;
        quiet = λ i h. sym (next_reads_input-without_levels (after_cycles w (suc i) (with_levels l a))) ∙ ap next_reads_input (sym (alike i (omega arith))) ∙ next_reads_input-without_levels (after_cycles w (suc i) (with_levels m a)) ∙ to.quiet i h;
        property_holds = λ i h. ignores (after_cycles w (suc i) (with_levels l a)) ∙ ap p (sym (alike i h)) ∙ sym (ignores (after_cycles w (suc i) (with_levels m a))) ∙ to.property_holds i h;
        same = sym (alike to.more (omega arith)) ∙ to.same;
      }
