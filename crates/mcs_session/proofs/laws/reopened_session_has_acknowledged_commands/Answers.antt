use Rattle.mcs_session.proofs.Reopening.{reopened_state_is_after_prefix}
use Rattle.mcs_session.proofs.laws.reopened_session_has_acknowledged_commands.Goals as goal

pub returns : goal.returns
returns g c = λ t old new found opened. reopened_state_is_after_prefix t (g.D.Disk.state old) (g.D.Disk.state new) (g.E.Disk.state found) (g.E.Disk.state opened)
