-- The moments at which the commands of a run are acknowledged. A command is acknowledged when the
-- call that records it returns Ok. The moment of a command is the value of the disk's clock at that
-- time. The clock still has this value when the command's `ok` is written, because no call on the
-- disk is made in between (`MayAnswer` of mcs_shell).
use Rattle.std.specs.Prelude.{◌≡◌, ◌+◌, ◌≤◌, ℕ, List, [], ◌∷◌, count_by, nat_le}
use Rattle.mcs_disk.specs.Disk.{DiskState, bytes_of, time_of}
use Rattle.mcs_model.specs.declared.command.Command.{Command}
use Rattle.mcs_session.specs.Log.{LogHolds, log_after, recording_ticks}

-- The moments at which these commands are acknowledged, if they are recorded one after another. The
-- first argument is the clock before the first command. The second is the log at that time. Each
-- moment is four ticks after the one before it, or eight ticks if the log had no room for the
-- command.
abbrev pub moments_of : ℕ → List Command → List Command → List ℕ
moments_of clock log [] = []
moments_of clock log (c ∷ cs) =
    (clock + recording_ticks log c) ∷ moments_of (clock + recording_ticks log c) (log_after log c) cs

-- the last of these moments, or the clock if there are no moments
abbrev pub last_moment : ℕ → List ℕ → ℕ
last_moment clock [] = clock
last_moment clock (m ∷ ms) = last_moment m ms

-- The moments at which these commands were acknowledged. The commands were recorded one after
-- another between the states `old` and `new` of a disk. The clock and the log of `old` determine
-- all moments. The last moment is not later than the clock of `new`. `KeepsCommands` states that
-- each command is kept from its moment on.
pub record Acknowledgements (old new : DiskState) (commands : List Command) : Type 0 where
  pub log : List Command
  pub held : LogHolds (bytes_of old) log
  pub moments : List ℕ
  pub timed : moments ≡ moments_of (time_of old) log commands
  pub within : last_moment (time_of old) moments ≤ time_of new

-- the number of commands that were acknowledged at `time` or earlier; `moments` are the moments at
-- which the commands were acknowledged
abbrev pub acknowledged_by : ℕ → List ℕ → ℕ
acknowledged_by time moments = count_by (λ m. nat_le m time) moments
