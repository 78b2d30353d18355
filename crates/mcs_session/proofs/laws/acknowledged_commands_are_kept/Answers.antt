use Rattle.mcs_session.proofs.Reopening.{image_since_moment_represents_prefix}
use Rattle.mcs_session.proofs.laws.acknowledged_commands_are_kept.Goals as goal

pub returns : goal.returns
returns g c = λ old new. image_since_moment_represents_prefix (g.D.Disk.state old) (g.D.Disk.state new)
