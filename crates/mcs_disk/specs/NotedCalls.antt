-- The `DiskCall` for each `Call` of the code.
use Rattle.std.specs.Prelude.{ℕ, List, [], ◌∷◌}
use Rattle.mcs_disk.specs.Calls.{DiskCall, WasRead, Wrote, Failed, Synced}
use Rattle.mcs_disk.specs.declared.call_record.Call.{Call}
use Rattle.mcs_disk.specs.declared.call_record.Call.TheVariants.{Read, Write, FailedWrite, Sync}

-- The `DiskCall` for a `Call`; `bytes` are the bytes of a write. The list `seen` of a failed write
-- is empty: a read after the failed write returns the same bytes as before it.
abbrev pub call_of : Call → List ℕ → DiskCall
call_of Read bytes = WasRead
call_of (Write at) bytes = Wrote at bytes
call_of (FailedWrite at) bytes = Failed at bytes []
call_of Sync bytes = Synced

-- the `DiskCall`s for the calls of a record, in the same order
abbrev pub calls_in : List (Call × List ℕ) → List DiskCall
calls_in [] = []
calls_in (note ∷ notes) = call_of note.0 note.1 ∷ calls_in notes
