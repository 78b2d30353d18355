use Rattle.std.proofs.Common.{◌≡◌, ◌≤◌, ◌+◌, ◌*◌, ◌-◌, ◌++◌, length}
use Rattle.mcs_journal.specs.Calls.{read_calls}
use Rattle.mcs_disk.specs.Disk.{part, bytes_of}
use Rattle.mcs_disk.specs.Changes.{ReadsOnly}
use Rattle.mcs_journal.proofs.ReadingLog.{IsPrefix}
use Rattle.mcs_journal.proofs.reading.read_log.Given as goal

abbrev pub invariant-loop-records : goal.invariant-loop-records
invariant-loop-records g l = record {
  reads : ReadsOnly (g.D.Disk.state l.fn.disk) (g.D.Disk.state l.disk) ⊥;
  calls : (g.D.Disk.state l.disk).calls ≡ read_calls (3 * length l.records.items) ++ (g.D.Disk.state l.fn.disk).calls;
  within : l.used + 1 ≤ 65536;
  walked : (g.D.Disk.state l.fn.disk).honest → IsPrefix l.records.items l.used (part l.at 65536 (bytes_of (g.D.Disk.state l.fn.disk)));
}

abbrev pub decreases-loop-records : goal.decreases-loop-records
decreases-loop-records g l = 65536 - l.used
