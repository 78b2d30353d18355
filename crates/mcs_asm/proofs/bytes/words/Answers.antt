use Rattle.mcs_source.proofs.Decoding.{decoded_words_are_spelling}
use Rattle.mcs_asm.proofs.bytes.words.Goals as goal

pub returns : goal.returns
returns c = decoded_words_are_spelling c.encode.result.first c.encode.result.second c.args.op c.encode.ensures.decodes c.encode.ensures.second
