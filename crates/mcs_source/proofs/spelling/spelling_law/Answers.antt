use Rattle.mcs_source.proofs.Decoding.{decoded_instruction_is_encoded_by_words}
use Rattle.mcs_source.proofs.spelling.spelling_law.Goals as goal

pub returns : goal.returns
returns c = decoded_instruction_is_encoded_by_words
