use Rattle.mcs_session.proofs.Reopening.{image_at_end_represents_prefix, image_at_end_represents_final_state}
use Rattle.mcs_session.proofs.laws.run_end_keeps_all_commands.Goals as goal

pub returns-clause-acknowledged : goal.returns-clause-acknowledged
returns-clause-acknowledged g c = λ old new. image_at_end_represents_prefix (g.D.Disk.state old) (g.D.Disk.state new)

pub returns-clause-whole : goal.returns-clause-whole
returns-clause-whole g c = λ old new. image_at_end_represents_final_state (g.D.Disk.state old) (g.D.Disk.state new)
