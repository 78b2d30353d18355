-- The state of a disk over an open file of the host, as contracts see it.
use Rattle.mcs_disk.specs.Disk.{DiskState}
use Rattle.mcs_host.specs.FileDisk.{file_state}
use Rattle.mcs_host.specs.declared.host_disk.HostDisk.{HostDisk}
use Rattle.mcs_host.specs.declared.host_file.HostFile as host_file

module _ {H : Type 0} {g : host_file.Ghosts H} where
  -- the state of an open file of the host, seen as a disk
  abbrev pub host_disk : HostDisk H g → DiskState
  host_disk disk = file_state disk.faults disk.history disk.end
