use Rattle.mcs_disk.specs.Disk.{bytes_of}
use Rattle.mcs_disk.proofs.StretchComposition.{only_image_since_now_if_durable}
use Rattle.mcs_disk.proofs.laws.cut_keeps_durable_bytes.Goals as goal

pub returns : goal.returns
returns g c = λ d e durable cut. only_image_since_now_if_durable (g.D.Disk.state d) durable (bytes_of (g.E.Disk.state e)) cut.found
