use Rattle.std.proofs.Common.{◌<◌, subst, ℕ}
use Rattle.mcs_source.specs.Text.{piece_size}
use Rattle.mcs_dis.proofs.Loops.{second_word_of_two}
use Rattle.mcs_dis.proofs.decoding.second_word.Goals as goal

pub returns-then-piece_size-gt1 : goal.returns-then-piece_size-gt1
returns-then-piece_size-gt1 c =
    let more : 1 < piece_size c.args.piece.now = subst (λ (n : ℕ). 1 < n) c.piece_size.ensures c.if-piece_size-gt1.true in
    second_word_of_two c.args.piece.now c.args.bytes.now more c.requires
