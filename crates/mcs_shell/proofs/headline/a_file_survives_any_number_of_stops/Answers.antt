use Rattle.mcs_host.specs.Ending.{as_disk}
use Rattle.mcs_shell.specs.FileHeadline.{IsReopenedFile}
use Rattle.mcs_shell.proofs.ReopenedFiles.{reopened_file_left_by_cut}
use Rattle.mcs_shell.proofs.History.{survives_history}
use Rattle.mcs_shell.proofs.headline.a_file_survives_any_number_of_stops.Goals as goal

pub returns : goal.returns
returns c = survives_history as_disk IsReopenedFile reopened_file_left_by_cut
