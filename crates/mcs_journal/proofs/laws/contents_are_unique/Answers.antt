use Rattle.mcs_journal.proofs.UniqueContents.{snapshot_is_unique, records_are_unique}
use Rattle.mcs_journal.proofs.laws.contents_are_unique.Goals as goal

pub returns : goal.returns
returns c = λ file snap other records more a b. (snapshot_is_unique file snap other records more a b, records_are_unique file snap other records more a b)
