use Rattle.mcs_shell.specs.History.{IsFoundByCut}
use Rattle.mcs_shell.proofs.History.{survives_history}
use Rattle.mcs_shell.proofs.headline.any_number_of_runs_survive_power_cuts.Goals as goal

pub returns : goal.returns
returns g c = survives_history g.D.Disk.state (IsFoundByCut g.D.Disk.state) (λ t left found honest cut. cut)
