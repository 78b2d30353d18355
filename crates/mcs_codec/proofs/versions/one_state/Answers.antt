use Rattle.mcs_codec.proofs.StateCodec.{encoded_state_is_unique, version_of_encoded_state}
use Rattle.mcs_codec.proofs.versions.one_state.Goals as goal

pub returns-clause-states : goal.returns-clause-states
returns-clause-states c = λ bytes v w s t h k. (encoded_state_is_unique bytes v w s t h k).1

pub returns-clause-versions : goal.returns-clause-versions
returns-clause-versions c = λ bytes v w s t h k. (encoded_state_is_unique bytes v w s t h k).0

pub returns-clause-versioned : goal.returns-clause-versioned
returns-clause-versioned c = λ bytes version s h. version_of_encoded_state version bytes s h
