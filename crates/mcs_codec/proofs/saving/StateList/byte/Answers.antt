use Rattle.std.proofs.Common.{arith}
use Rattle.mcs_codec.proofs.BoardLengths.{chain_bits_within_limit}
use Rattle.mcs_codec.proofs.saving.StateList.byte.Goals as goal

pub overflow_cast-i-in-ChainBits : goal.overflow_cast-i-in-ChainBits
overflow_cast-i-in-ChainBits c =
    let place = rw c.in-ChainBits.is at c.requires.place in
    omega (arith, place, chain_bits_within_limit c.args.bench.now.bus.board c.in-ChainBits.n c.requires.valid.bus.board.valid)
