use Rattle.mcs_dis.proofs.RangePairs.{range_pairs}
use Rattle.mcs_dis.proofs.SourceAssembles.{range_source_assembles_back}
use Rattle.mcs_dis.proofs.laws.source_law.Goals as goal

pub returns : goal.returns
returns c = record { spelled = range_source_assembles_back; pairs = range_pairs }
