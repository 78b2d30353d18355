-- The state of each kind of disk in this crate, as contracts see it.
use Rattle.std.specs.Prelude.{◌≡◌, ℕ, List, []}
use Rattle.mcs_disk.specs.Disk.{DiskState}
use Rattle.mcs_disk.specs.NotedCalls.{calls_in}
use Rattle.mcs_disk.specs.declared.fuse.FuseDisk.{FuseDisk}
use Rattle.mcs_disk.specs.declared.memory.MemDisk.{MemDisk}

-- the state of an in-memory disk: it is always honest, has had no errors, and lists the calls since
-- the disk was created
abbrev pub mem_disk_state : MemDisk → DiskState
mem_disk_state disk = record {
  faults = 0;
  honest = Unit {0};
  start = disk.history.start;
  calls = calls_in disk.history.notes;
}

-- the state of a `FuseDisk`: the state of the wrapped disk, but with the error count of the
-- `FuseDisk`
abbrev pub fuse_disk_state : FuseDisk → DiskState
fuse_disk_state disk = record (mem_disk_state disk.disk) { faults = disk.faults }

-- holds if the disk is honest, holds these bytes, and has had no calls and no errors
pub record IsFresh (file : List ℕ) (disk : DiskState) : Type 0 where
  pub honest : disk.honest
  pub faults : disk.faults ≡ 0
  pub start : disk.start ≡ file
  pub calls : disk.calls ≡ []
