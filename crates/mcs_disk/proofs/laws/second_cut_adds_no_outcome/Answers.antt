use Rattle.std.proofs.Common.{subst, sym}
use Rattle.mcs_disk.specs.Disk.{bytes_of, images_since}
use Rattle.mcs_disk.proofs.StretchComposition.{only_image_since_now_if_durable}
use Rattle.mcs_disk.proofs.laws.second_cut_adds_no_outcome.Goals as goal

pub returns : goal.returns
returns g c = λ t d e f first second. record {
  honest = second.honest;
  found = subst (images_since t (g.D.Disk.state d)) (sym (only_image_since_now_if_durable (g.E.Disk.state e) first.durable (bytes_of (g.F.Disk.state f)) second.found)) first.found;
  durable = second.durable;
}
