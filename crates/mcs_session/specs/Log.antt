-- The commands of a log, before and after another command is recorded.
use Rattle.std.specs.Prelude.{◌≡◌, ◌&&◌, Bool, ℕ, List, [], ◌∷◌, ◌++◌, length, map, nat_le, if◌then◌else◌}
use Rattle.mcs_codec.specs.CommandBytes.{command_bytes}
use Rattle.mcs_journal.specs.File.{frames_of, has_room}
use Rattle.mcs_model.specs.declared.command.Command.{Command}
use Rattle.mcs_model.specs.declared.limits.TheConstants.{REPLAY_CYCLES}
use Rattle.mcs_model.specs.BenchState.{BenchState}
use Rattle.mcs_session.specs.Cycles.{log_cycles}
use Rattle.mcs_session.specs.Represents.{Represents}

-- holds if the file represents some state, and `log` is the list of commands in its log
pub record LogHolds (file : List ℕ) (log : List Command) : Type 0 where
  pub state : BenchState
  pub represents : Represents file state
  pub commands : log ≡ represents.records_represent.commands

-- true if a log of these commands has room for the record and for the cycles of the command `c`
abbrev pub has_room_for : List Command → Command → Bool
has_room_for log c =
    has_room (length (frames_of (map command_bytes log))) (length (command_bytes c))
    && nat_le (log_cycles (log ++ c ∷ [])) REPLAY_CYCLES

-- The commands of the log after the command `c` was recorded. If the log had no room for `c`, a
-- snapshot replaced all records first.
abbrev pub log_after : List Command → Command → List Command
log_after log c = (if has_room_for log c then log else []) ++ c ∷ []

-- the commands of the log after all of these commands were recorded, one after another
abbrev pub log_after_all : List Command → List Command → List Command
log_after_all log [] = log
log_after_all log (c ∷ cs) = log_after_all (log_after log c) cs

-- the number of ticks of the disk's clock that recording a command takes: 4 if the log has room for
-- the command, otherwise 8
abbrev pub recording_ticks : List Command → Command → ℕ
recording_ticks log c = if has_room_for log c then 4 else 8
