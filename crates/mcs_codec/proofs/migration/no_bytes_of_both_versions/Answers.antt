use Rattle.mcs_codec.proofs.StateCodec.{not_encoded_in_both_versions}
use Rattle.mcs_codec.proofs.migration.no_bytes_of_both_versions.Goals as goal

pub returns : goal.returns
returns c = λ bytes s t h k. not_encoded_in_both_versions bytes s t h k
