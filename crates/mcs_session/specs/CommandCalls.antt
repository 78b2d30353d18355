-- The results of a session's `apply` and `settle`, and the effect of these calls on the disk.
use Rattle.std.specs.Prelude.{◌≡◌, ◌+◌, min, Bool, true, false, ℕ, List, None, Some, Result, Ok, Err}
use Rattle.mcs_disk.specs.Disk.{DiskState, max_fault_count, bytes_of, time_of}
use Rattle.mcs_disk.specs.Stretches.{SatisfiesEither, LeavesOnly}
use Rattle.mcs_model.specs.declared.command.Command.{Command}
use Rattle.mcs_model.specs.declared.command.Reply.{Reply}
use Rattle.mcs_model.specs.BenchState.{BenchState}
use Rattle.mcs_model.specs.Command.{refusal, after, reply}
use Rattle.mcs_session.specs.declared.fault.SessionFault.{SessionFault}
use Rattle.mcs_session.specs.declared.fault.SessionFault.TheVariants.{Refused, Device, Closed}
use Rattle.mcs_session.specs.Log.{LogHolds, log_after, recording_ticks}
use Rattle.mcs_session.specs.Represents.{DiskRepresents, HoldsState, Represents}

-- ---- `apply`

-- Holds if the command, applied in the state `s`, gives this result and the state `new`. The first
-- argument is true if the session is open.
abbrev pub AppliesCommand : Bool → BenchState → Command → Result Reply SessionFault → BenchState
    → Type 0
AppliesCommand true s c (Ok r) new = (refusal s c ≡ None) × (r ≡ reply s c) × (new ≡ after s c)
AppliesCommand true s c (Err (Refused f)) new = (refusal s c ≡ Some f) × (new ≡ s)
AppliesCommand true s c (Err Device) new = (refusal s c ≡ None) × (new ≡ s)
AppliesCommand false s c (Err Closed) new = new ≡ s
AppliesCommand live s c result new = ⊥

-- For the result `Device`, holds if the call closed the session and increased the disk's error
-- count by 1, up to the maximum. For any other result, holds if `live` and the error count are
-- unchanged. The arguments are `live` and the error count before the call, the result, and `live`
-- and the error count after the call.
abbrev pub ClosesAtDeviceFault : {T : Type 0} → Bool → ℕ → Result T SessionFault → Bool → ℕ → Type 0
ClosesAtDeviceFault live faults (Ok r) new_live new_faults =
    (new_live ≡ live) × (new_faults ≡ faults)
ClosesAtDeviceFault live faults (Err Device) new_live new_faults =
    (new_live ≡ false) × (new_faults ≡ min (faults + 1) max_fault_count)
ClosesAtDeviceFault live faults (Err fault) new_live new_faults =
    (new_live ≡ live) × (new_faults ≡ faults)

-- holds if a power cut at any moment between the two disk states leaves a file that represents one
-- of the two bench states
abbrev pub LeavesEitherState : DiskState → DiskState → BenchState → BenchState → Type 0
LeavesEitherState old new s other =
    LeavesOnly old new (SatisfiesEither (λ file. Represents file s) (λ file. Represents file other))

-- Holds if the command `c` was acknowledged. Until then, a power cut leaves the state before the
-- command or the state after the command. From then on, a power cut leaves the state after the
-- command. The recording took `recording_ticks` ticks. The log now has the command's record.
pub record AcknowledgesCommand (old new : DiskState) (s : BenchState) (c : Command) : Type 0 where
  pub leaves : LeavesEitherState old new s (after s c)
  pub log : List Command
  pub held : LogHolds (bytes_of old) log
  pub ticks : time_of new ≡ time_of old + recording_ticks log c
  pub holds : LogHolds (bytes_of new) (log_after log c)
  pub represents : DiskRepresents new (after s c)

-- the effect of a command on an honest disk, for each result of the command
abbrev pub RecordsOrFails : Result Reply SessionFault → DiskState → DiskState → BenchState
    → Command → Type 0
RecordsOrFails (Ok r) old new s c = AcknowledgesCommand old new s c
RecordsOrFails (Err Device) old new s c = LeavesEitherState old new s (after s c)
RecordsOrFails (Err fault) old new s c = new.calls ≡ old.calls

-- ---- `settle`

-- Holds if `settle` can return this result: Ok or `Device` from an open session, or `Closed` from a
-- closed session. The first argument is true if the session is open.
abbrev pub IsSettleResult : {T : Type 0} → Bool → Result T SessionFault → Type 0
IsSettleResult true (Ok x) = Unit {0}
IsSettleResult true (Err Device) = Unit {0}
IsSettleResult false (Err Closed) = Unit {0}
IsSettleResult live result = ⊥

-- holds if a power cut at any moment between the two disk states leaves a file that represents this
-- bench state
abbrev pub KeepsState : DiskState → DiskState → BenchState → Type 0
KeepsState old new s = LeavesOnly old new (λ file. Represents file s)

-- Holds if `settle` succeeded. The bytes of the disk `old` represented this state. Four ticks
-- later, the disk `new` holds a snapshot of the state and no records. A power cut at any moment in
-- between leaves this state.
pub record SettlesSession (old new : DiskState) (s : BenchState) : Type 0 where
  pub represented_before : Represents (bytes_of old) s
  pub holds : HoldsState (bytes_of new) s
  pub leaves : KeepsState old new s
  pub ticks : time_of new ≡ time_of old + 4
  pub represents : DiskRepresents new s

-- the effect of `settle` on an honest disk, for each result of the call
abbrev pub SettlesOrFails : {T : Type 0} → Result T SessionFault → DiskState → DiskState
    → BenchState → Type 0
SettlesOrFails (Ok x) old new s = SettlesSession old new s
SettlesOrFails (Err Device) old new s = Represents (bytes_of old) s × KeepsState old new s
SettlesOrFails (Err fault) old new s = new.calls ≡ old.calls
