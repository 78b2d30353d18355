use Rattle.std.proofs.Common.{arith}
use Rattle.mcs_shift4003.proofs.WordLemmas.{shifted-next_word}
use Rattle.mcs_shift4003.proofs.shift_words.Goals as goal

pub loop-k-preserved : goal.loop-k-preserved
loop-k-preserved c =
    let l = c.loop-k in
    let len = l.invariant.len in
    shifted-next_word c.args.level c.args.words.now l.words l.k l.carry c.shift_word-word.result.0 c.shift_word-word.result.1 l.invariant (omega arith) c.shift_word-word.ensures.word c.shift_word-word.ensures.shifted_out
