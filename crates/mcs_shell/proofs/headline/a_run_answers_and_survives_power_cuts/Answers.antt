use Rattle.mcs_shell.proofs.SurvivingCommands.{run_answers_and_survives}
use Rattle.mcs_shell.proofs.headline.a_run_answers_and_survives_power_cuts.Goals as goal

pub returns : goal.returns
returns g c = run_answers_and_survives g.D.Disk.state g.E.Disk.state
