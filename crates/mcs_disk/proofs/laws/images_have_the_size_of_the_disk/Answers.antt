use Rattle.mcs_disk.proofs.CallLaws.{disk_is_lawful}
use Rattle.mcs_disk.proofs.StretchComposition.{length_of_disk_image_since}
use Rattle.mcs_disk.proofs.laws.images_have_the_size_of_the_disk.Goals as goal

pub returns-clause-now : goal.returns-clause-now
returns-clause-now g c = λ disk. (disk_is_lawful (g.D.Disk.state disk)).sized

pub returns-clause-since : goal.returns-clause-since
returns-clause-since g c = λ time disk. length_of_disk_image_since (g.D.Disk.state disk) time
