use Rattle.mcs_session.proofs.Reopening.{error_after_cut_is_device_or_memory}
use Rattle.mcs_session.proofs.laws.disk_left_by_cut_can_be_opened.Goals as goal

pub returns : goal.returns
returns g c = λ t old new found s done reached fault kept le cut.
    error_after_cut_is_device_or_memory t (g.D.Disk.state old) (g.D.Disk.state new) (g.E.Disk.state found) s done reached fault kept le cut
