use Rattle.mcs_disk.specs.Disk.{bytes_of}
use Rattle.mcs_disk.proofs.CallLaws.{disk_is_lawful}
use Rattle.mcs_disk.proofs.laws.cut_since_later_is_since_earlier.Goals as goal

pub returns : goal.returns
returns g c = λ t u d e le honest cut. record {
  honest = cut.honest;
  found = (disk_is_lawful (g.D.Disk.state d)).since_later_implies_since_earlier t u (bytes_of (g.E.Disk.state e)) le cut.found;
  durable = cut.durable;
}
