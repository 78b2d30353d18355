use Rattle.std.proofs.Common.{inl, inr, ⊎_elim}
use Rattle.mcs_disk.specs.Disk.{bytes_of}
use Rattle.mcs_disk.proofs.StretchComposition.{image_since_before_or_in_stretch}
use Rattle.mcs_disk.proofs.laws.cut_is_before_a_stretch_or_since_its_start.Goals as goal

pub returns : goal.returns
returns g c = λ t old new e le later cut.
    ⊎_elim
    (λ past. inl (record { honest = cut.honest; found = past; durable = cut.durable }))
    (λ now. inr (record { honest = cut.honest; found = now; durable = cut.durable }))
    (image_since_before_or_in_stretch (g.D.Disk.state old) (g.D.Disk.state new) later t (bytes_of (g.E.Disk.state e)) cut.found)
