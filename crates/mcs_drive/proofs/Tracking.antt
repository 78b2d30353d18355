-- The laws about one cycle of a machine also hold for a tracked machine.
use Rattle.std.proofs.Common.{◌≡◌, ◌∙◌, ℕ, zero, suc, false, None, refl, ap}
use Rattle.mcs_model.specs.Boards.{board_fault_of}
use Rattle.mcs_model.specs.Bus.{fetch_of}
use Rattle.mcs_model.specs.Running.{Machine}
use Rattle.mcs_drive.specs.DrivenRuns.{Levels, with_levels as under_machine, cycled as cycled_machine, driven as driven_machine}
use Rattle.mcs_drive.specs.TrackedMachine.{Counts, Observer, TrackedMachine, machine_in, counts_after, with_levels, without_levels, cycled, next_reads_input, value_read, driven}
use Rattle.mcs_drive.proofs.LevelLemmas.{cycled-with_levels-if-no-read as machine-rest}
use Rattle.mcs_drive.proofs.ReadValueLemmas.{cycled-decided-by-value-read as machine-decides}
use Rattle.mcs_drive.proofs.SeenMarkLemmas.{seen_after-with_levels-if-no-read, seen_after-decided-by-value-read}

-- the tracked machine with machine `m` and counts `n`
abbrev pub with_counts : Counts → Machine → TrackedMachine
with_counts n m = (m.0, m.1, n)

module _ (w : Observer) where
  -- a cycle that reads no input does not depend on the input levels and leaves them unchanged
  pub cycled-with_levels-if-no-read : (l : Levels) (s : TrackedMachine) → board_fault_of s.1.board ≡ None → next_reads_input s ≡ false → cycled w (with_levels l s) ≡ with_levels l (cycled w s)
  unfolding fetch_of
  cycled-with_levels-if-no-read l s v e =
      ap (λ (n : ℕ). with_counts (record (counts_after w s) { seen = n }) (cycled_machine (under_machine l (machine_in s)))) (seen_after-with_levels-if-no-read w l s e)
      ∙ ap (with_counts (counts_after w s)) (machine-rest l (machine_in s) v e)

  -- the input levels affect a cycle only through the value that the cycle reads
  pub cycled-decided-by-value-read : (l l' : Levels) (s : TrackedMachine) → board_fault_of s.1.board ≡ None → value_read l s ≡ value_read l' s → without_levels (cycled w (with_levels l s)) ≡ without_levels (cycled w (with_levels l' s))
  unfolding fetch_of
  cycled-decided-by-value-read l l' s v e =
      ap (λ (n : ℕ). without_levels (with_counts (record (counts_after w s) { seen = n }) (cycled_machine (under_machine l (machine_in s))))) (seen_after-decided-by-value-read w l l' s e)
      ∙ ap (with_counts (counts_after w (with_levels l' s))) (machine-decides l l' (machine_in s) v e)

  pub tracks-machine : (f : ℕ → Levels) (k : ℕ) (s : TrackedMachine) → machine_in (driven w f k s) ≡ driven_machine f k (machine_in s)
  tracks-machine f zero s = refl
  tracks-machine f (suc k) s = ap (λ (m : Machine). cycled_machine (under_machine (f k) m)) (tracks-machine f k s)
