use Rattle.mcs_drive.proofs.LevelLemmas.{cycled-with_levels-if-no-read}
use Rattle.mcs_drive.proofs.laws.levels_have_no_effect.Goals as goal

pub returns : goal.returns
returns c = cycled-with_levels-if-no-read
