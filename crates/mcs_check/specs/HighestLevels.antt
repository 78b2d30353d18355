-- A machine with each key at its highest level within the limits.
use Rattle.std.specs.Prelude.{◌≡◌, ◌<◌, ◌/◌, ◌%◌, ℕ, true}
use Rattle.mcs_model.specs.declared.board.BoardParts.{BoardParts}
use Rattle.mcs_model.specs.Boards.{has_key, key_index}
use Rattle.mcs_drive.specs.DrivenRuns.{InputLimits}
use Rattle.mcs_drive.specs.TrackedMachine.{TrackedMachine}

-- a machine with each key at its highest level within the limits, and TEST at 0
abbrev pub with_highest_keys : InputLimits → TrackedMachine → TrackedMachine
with_highest_keys limits s = (s.0, record s.1 { keys = limits.keys; test = 0 }, s.2)

-- holds if `columns` is above 0, and the board has a key with index i in row i / columns and column
-- i % columns
pub record IsKeyAt (b : BoardParts) (columns i : ℕ) : Type 0 where
  pub some : 0 < columns
  pub there : has_key b (i / columns) (i % columns) ≡ true
  pub index : key_index b (i / columns) (i % columns) ≡ i
