use Rattle.mcs_wiring.proofs.LineSteps.{first_line_splits_off}
use Rattle.mcs_wiring.proofs.report.first_line.Goals as goal

pub returns : goal.returns
returns c = first_line_splits_off c.args.text.now c.split_once.result c.split_once.ensures.cases
