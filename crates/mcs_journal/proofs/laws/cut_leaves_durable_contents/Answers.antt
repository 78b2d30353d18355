use Rattle.std.proofs.Common.{List, ℕ, subst, sym}
use Rattle.mcs_disk.specs.Disk.{bytes_of}
use Rattle.mcs_disk.proofs.StretchComposition.{only_image_since_now_if_durable}
use Rattle.mcs_journal.specs.File.{Holds}
use Rattle.mcs_journal.proofs.laws.cut_leaves_durable_contents.Goals as goal

pub returns : goal.returns
returns g c = λ snap records disk found durable holds cut.
    subst (λ (file : List ℕ). Holds file snap records) (sym (only_image_since_now_if_durable (g.D.Disk.state disk) durable (bytes_of (g.E.Disk.state found)) cut.found)) holds
