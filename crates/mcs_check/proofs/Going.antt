-- A run that is extended one cycle at a time.
use Rattle.std.proofs.Common.{◌≡◌, ◌<◌, ℕ, zero, suc, Bool, true, false, refl, sym, ap, ◌∙◌, arith, below_more}
use Rattle.mcs_drive.specs.TrackedMachine.{Observer, TrackedMachine, cycled, after_cycles, next_reads_input}
use Rattle.mcs_check.specs.StateVectors.{KeepsBoardAndInputs}
use Rattle.mcs_check.specs.ReadPoints.{Reaches}
use Rattle.mcs_check.proofs.Keeping.{cycle-keeps, keeps-refl, keeps-trans}

-- a run of `cycles` cycles from `s` to `t` in which no cycle reads an input, and the property holds
-- before each cycle
pub record RunSoFar (w : Observer) (p : TrackedMachine → Bool) (cycles : ℕ) (s t : TrackedMachine) : Type 0 where
  pub quiet : (i : ℕ) → i < cycles → next_reads_input (after_cycles w i s) ≡ false
  pub property_holds : (i : ℕ) → i < cycles → p (after_cycles w i s) ≡ true
  pub at : t ≡ after_cycles w cycles s

module _ (w : Observer) where
  pub walked-none : (p : TrackedMachine → Bool) (s : TrackedMachine) → RunSoFar w p 0 s s
  walked-none p s = record { quiet = λ i h. absurd (omega arith); property_holds = λ i h. absurd (omega arith); at = refl }

  pub walked-more : (p : TrackedMachine → Bool) (n : ℕ) (s t u : TrackedMachine) → RunSoFar w p n s t → p t ≡ true → next_reads_input t ≡ false → u ≡ cycled w t → RunSoFar w p (suc n) s u
  walked-more p n s t u run property_holds quiet e = record {
    quiet = λ i h. below_more (λ i. next_reads_input (after_cycles w i s) ≡ false) n run.quiet (ap next_reads_input (sym run.at) ∙ quiet) i (omega arith);
    property_holds = λ i h. below_more (λ i. p (after_cycles w i s) ≡ true) n run.property_holds (ap p (sym run.at) ∙ property_holds) i (omega arith);
    at = e ∙ ap (cycled w) run.at;
  }

  pub walked-reaches : (p : TrackedMachine → Bool) (n : ℕ) (s t : TrackedMachine) → RunSoFar w p n s t → p t ≡ true → Reaches w p n s t
  walked-reaches p n s t run property_holds = record {
    quiet = run.quiet;
    property_holds = λ i h. below_more (λ i. p (after_cycles w i s) ≡ true) n run.property_holds (ap p (sym run.at) ∙ property_holds) i (omega arith);
    at = run.at;
  }

  cycles-keep : (n : ℕ) (s : TrackedMachine) → KeepsBoardAndInputs s.1 (after_cycles w n s).1
  cycles-keep zero s = keeps-refl s.1
  cycles-keep (suc n) s = keeps-trans s.1 (after_cycles w n s).1 (cycled w (after_cycles w n s)).1 (cycles-keep n s) (cycle-keeps w (after_cycles w n s))

  pub walked-keeps : (p : TrackedMachine → Bool) (n : ℕ) (s t : TrackedMachine) → RunSoFar w p n s t → KeepsBoardAndInputs s.1 t.1
  walked-keeps p n s t run = (let k = cycles-keep n s in let e = ap (λ (m : TrackedMachine). m.1) run.at in record {
    board = ap (λ (m : TrackedMachine). m.1.board) run.at ∙ k.board;
    rom = ap (λ (m : TrackedMachine). m.1.rom) run.at ∙ k.rom;
    keys = ap (λ (m : TrackedMachine). m.1.keys) run.at ∙ k.keys;
    test = ap (λ (m : TrackedMachine). m.1.test) run.at ∙ k.test;
  })
