use Rattle.std.proofs.Common.{[], arith}
use Rattle.std.proofs.lemmas.List.Folds.{length-flat_map-take}
use Rattle.mcs_codec.proofs.saving.put_chains.Goals as goal

pub put-end-requires-clause-room : goal.put-end-requires-clause-room
put-end-requires-clause-room c =
    let count = rw c.board.ensures at c.chain_count-n-end.ensures in
    let here = length-flat_map-take (λ bits. bits) c.args.bench.now.bus.chains c.loop-n.n [] (omega (arith, c.loop-n-test.true, count, c.requires.valid.bus.in_range.chains)) in
    omega (arith, here, c.loop-n.invariant.end, c.requires.room)
