use Rattle.mcs_disk.proofs.CallLaws.{disk_is_lawful}
use Rattle.mcs_disk.proofs.laws.current_bytes_are_an_image.Goals as goal

pub returns : goal.returns
returns g c = λ disk. (disk_is_lawful (g.D.Disk.state disk)).current
