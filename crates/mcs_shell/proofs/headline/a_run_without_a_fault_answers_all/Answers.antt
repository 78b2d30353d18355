use Rattle.mcs_shell.proofs.FaultCounts.{all_input_served_without_fault}
use Rattle.mcs_shell.proofs.headline.a_run_without_a_fault_answers_all.Goals as goal

pub returns : goal.returns
returns g c = all_input_served_without_fault g.D.Disk.state
