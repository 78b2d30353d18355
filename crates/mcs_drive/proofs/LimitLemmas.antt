-- The limits `no_limits` allow all inputs.
use Rattle.std.proofs.Common.{◌≡◌, ◌<◌, ◌≤◌, ℕ, List, inl, inr, replicate, slice_index, All, arith}
use Rattle.std.proofs.lemmas.Bool.{cases_lt}
use Rattle.std.proofs.lemmas.List.{get_or-replicate, get_or_past}
use Rattle.std.proofs.lemmas.List.Elements.{All-weaker}
use Rattle.std.proofs.lemmas.List.Sums.{sum_by-le}
use Rattle.mcs_model.specs.declared.board.BoardParts.{BoardParts}
use Rattle.mcs_model.specs.Boards.{key_count}
use Rattle.mcs_model.specs.Validity.{AreBelow}
use Rattle.mcs_drive.specs.DrivenRuns.{AreAllowed, AreInputsAllowed, FitsBoard, Levels, no_limits}
use Rattle.mcs_drive.proofs.ShownMarkLemmas.{key-level-below-two}

-- the level of each key is at most the number at the same index in a list of `n` ones
level-at-most-highest : (n i : ℕ) (keys : List ℕ) → AreBelow n 2 keys → slice_index keys i ≤ slice_index (replicate n 1) i
level-at-most-highest n i keys fit =
    elim (cases_lt i n) [
      | inl within ↦ (let one : slice_index (replicate n 1) i ≡ 1 = get_or-replicate n i 1 0 within in let low = key-level-below-two n i keys fit in omega arith)
      | inr past ↦ (let none : slice_index keys i ≡ 0 = get_or_past keys i 0 (let len = fit.has_count in omega arith) in omega arith)
    ]

all-at-most-one : (keys : List ℕ) → All (λ k. k < 2) keys → All (λ k. k ≤ 1) keys
all-at-most-one keys h = All-weaker (λ k. k < 2) (λ k. k ≤ 1) (λ k low. omega arith) keys h

levels-allowed : (b : BoardParts) (l : Levels) → FitsBoard b l → AreAllowed (no_limits b) b l
levels-allowed b l fit = record {
  fits = fit;
  keys = λ i. level-at-most-highest (key_count b) i l.keys fit.keys;
  test = (let low = fit.test in omega arith);
  together = (let most = sum_by-le (λ k. k) 1 l.keys (all-at-most-one l.keys fit.keys.below) in let len = fit.keys.has_count in omega arith);
}

pub all-inputs-allowed : (b : BoardParts) (f : ℕ → Levels) → ((k : ℕ) → FitsBoard b (f k)) → AreInputsAllowed (no_limits b) b f
all-inputs-allowed b f fit = record {
  levels = λ k. levels-allowed b (f k) (fit k);
  spaced = λ i j before first second. (omega arith);
  released = λ limited key k. absurd (omega arith);
}
