-- The commands of a run that a disk keeps if a power cut happens at any moment.
use Rattle.std.specs.Prelude.{◌≡◌, ◌≤◌, IsTrue, ℕ, List, [], ◌++◌, length, take}
use Rattle.mcs_disk.specs.Disk.{CountsFault, DiskState, bytes_of, time_of, images_since, IsLater}
use Rattle.mcs_model.specs.declared.command.Command.{Command}
use Rattle.mcs_model.specs.BenchState.{BenchState}
use Rattle.mcs_model.specs.Fold.{AreAccepted, fold}
use Rattle.mcs_session.specs.Acknowledgements.{Acknowledgements, acknowledged_by, last_moment}
use Rattle.mcs_session.specs.Log.{LogHolds, log_after_all}
use Rattle.mcs_session.specs.SessionState.{Premise, SessionState}
use Rattle.mcs_session.specs.Represents.{Represents}

-- ---- prefixes

-- holds if `found` is the state after a prefix of these commands, executed from the state `s`; the
-- prefix has at least `least` commands
pub record IsAfterPrefix
    (s : BenchState) (commands : List Command) (least : ℕ) (found : BenchState) : Type 0 where
  pub count : ℕ
  pub at_least : least ≤ count
  pub at_most : count ≤ length commands
  pub state : found ≡ fold s (take count commands)

-- holds if the file represents a state for which `IsAfterPrefix` holds
pub record RepresentsPrefix
    (s : BenchState) (commands : List Command) (least : ℕ) (file : List ℕ) : Type 0 where
  pub state : BenchState
  pub represents : Represents file state
  pub after : IsAfterPrefix s commands least state

-- ---- a run

-- The commands that a disk keeps, executed one after another from the state `s`. `done` are the
-- acknowledged commands, each with its moment. `failed` are the commands after `done` that may also
-- have reached the disk. `reached` is `done` followed by `failed`. (In `KeepsAllCommands`, `failed`
-- is empty. In `ClosesSession` of mcs_shell, `failed` is the command at which the device failed.)
pub record KeepsCommands
    (old new : DiskState) (s : BenchState) (done reached : List Command) : Type 0 where
  pub acknowledged : Acknowledgements old new done
  pub failed : List Command
  pub reached_are : reached ≡ done ++ failed
  -- each image that a power cut since `time` can leave represents the state after a prefix of the
  -- commands; the prefix has every command that was acknowledged by `time`
  pub each : (time : ℕ) (image : List ℕ) → time_of old ≤ time → images_since time new image
      → RepresentsPrefix s reached (acknowledged_by time acknowledged.moments) image
  pub later : IsLater old new

-- `KeepsCommands` for a run in which no call failed. At the end of the run, the disk's clock is at
-- the last of the moments, and the log holds the commands that `log_after_all` gives.
pub record KeepsAllCommands
    (old new : DiskState) (s : BenchState) (commands : List Command) : Type 0 where
  pub kept : KeepsCommands old new s commands commands
  pub clock : time_of new ≡ last_moment (time_of old) kept.acknowledged.moments
  pub holds : LogHolds (bytes_of new) (log_after_all kept.acknowledged.log commands)

-- the premise of the promises about kept commands: the session is open and its disk is honest
abbrev pub IsOpenOnHonestDisk : Premise
IsOpenOnHonestDisk a = IsTrue a.live × a.disk.honest

-- Holds if these commands were executed between the session states `a` and `b`, each was accepted,
-- and the disk's error count is unchanged. If the premise `Given` holds for `a`, the disk also
-- recorded the commands and keeps them.
pub record RecordsCommands
    (Given : Premise) (a b : SessionState) (commands : List Command) : Type 0 where
  pub live : b.live ≡ a.live
  pub accepted : AreAccepted a.state commands
  pub state : b.state ≡ fold a.state commands
  pub counts : CountsFault a.disk b.disk ⊥
  -- if there were no commands, no call was made on the disk, even if the disk is not honest
  pub untouched : commands ≡ [] → b.disk.calls ≡ a.disk.calls
  pub kept : Given a → KeepsAllCommands a.disk b.disk a.state commands
