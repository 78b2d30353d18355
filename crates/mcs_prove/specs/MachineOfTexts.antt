-- The machine that a board's text and a program's text define, and what a proof about it means.
use Rattle.std.specs.Prelude.{◌≡◌, ℕ, List, Bool, Ok, None}
use Rattle.mcs_model.specs.declared.board.BoardParts.{BoardParts}
use Rattle.mcs_model.specs.declared.command.Command.TheVariants.{Wire, Load, Reset}
use Rattle.mcs_model.specs.Bus.{BusState}
use Rattle.mcs_model.specs.BenchState.{BenchState, new_bench_state, new_regs}
use Rattle.mcs_model.specs.Command.{after, machine_of, refusal_of_command}
use Rattle.mcs_model.specs.Images.{by_address}
use Rattle.mcs_source.specs.Assembly.{assembly_of_text}
use Rattle.mcs_wiring.specs.Wiring.{board_of_text}
use Rattle.mcs_drive.specs.DrivenRuns.{InputLimits}
use Rattle.mcs_drive.specs.TrackedMachine.{Observer, TrackedMachine, with_zero_counts}
use Rattle.mcs_check.specs.declared.checking.Outcome.{Outcome}
use Rattle.mcs_check.specs.OutcomeMeaning.{IsProved}

-- a new bench after `wire` with the given board
abbrev pub bench_with_board : BoardParts → BenchState
bench_with_board b = after new_bench_state (Wire b)

-- the machine of a new bench after `wire` with a board, `asm` with an image, and `reset`. No call
-- is open, the stopwatch is at 0, and no mark was seen.
abbrev pub machine_with_program : BoardParts → List (ℕ × ℕ) → TrackedMachine
machine_with_program b image = with_zero_counts (machine_of (after (after (bench_with_board b) (Load image)) Reset))

-- holds if `wire` accepts the board's text, and `asm` then accepts the program's text
pub record AreTextsAccepted (board program : List ℕ) (b : BoardParts) (image : List (ℕ × ℕ)) : Type 0 where
  pub wires : board_of_text board ≡ Ok b
  pub pairs : List (ℕ × ℕ)
  pub spells : assembly_of_text program ≡ Ok pairs
  pub loads : image ≡ by_address pairs
  pub fits : refusal_of_command (bench_with_board b) (Load image) ≡ None

-- holds if a rig, with a new processor and all counts at 0, is the machine that two texts define
pub record IsRigOfTexts (board program : List ℕ) (rig : BusState) : Type 0 where
  pub parts : BoardParts
  pub loaded : List (ℕ × ℕ)
  pub accepted : AreTextsAccepted board program parts loaded
  pub is_machine : with_zero_counts (new_regs, rig) ≡ machine_with_program parts loaded

-- Holds if the promise of an outcome about the property `p` is true of the machine that two texts
-- define. `limits` has the limits on the inputs for each board, and `w` is the observer of the
-- machine's runs.
pub record IsProvedOf (board program : List ℕ) (limits : BoardParts → InputLimits) (w : Observer) (p : TrackedMachine → Bool) (outcome : Outcome) : Type 0 where
  pub parts : BoardParts
  pub loaded : List (ℕ × ℕ)
  pub accepted : AreTextsAccepted board program parts loaded
  pub proved : IsProved (limits parts) w p (machine_with_program parts loaded) outcome
