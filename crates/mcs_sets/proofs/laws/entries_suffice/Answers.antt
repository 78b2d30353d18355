use Rattle.mcs_sets.proofs.EntryProperties.{entries-suffice}
use Rattle.mcs_sets.proofs.laws.entries_suffice.Goals as goal

pub returns : goal.returns
returns c = entries-suffice
