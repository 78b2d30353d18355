use Rattle.std.proofs.Common.{take, arith}
use Rattle.mcs_codec.specs.StateLists.{list_in_state}
use Rattle.mcs_codec.proofs.StateParts.{list_has_its_length, buffer_extended}
use Rattle.mcs_codec.proofs.saving.StateList.put.Goals as goal

pub bounds-out-at : goal.bounds-out-at
bounds-out-at c = omega (arith, c.loop-i-test.true, c.count-count.ensures, list_has_its_length c.args.self c.args.bench.now c.requires.valid, c.requires.room)

pub loop-i-preserved : goal.loop-i-preserved
loop-i-preserved c =
    let read_all_of = list_has_its_length c.args.self c.args.bench.now c.requires.valid in
    buffer_extended c.loop-i.out (take c.args.at c.args.out.now) (list_in_state c.args.self c.args.bench.now) c.args.at c.loop-i.i c.byte.result
    (omega (arith, c.loop-i-test.true, c.count-count.ensures, read_all_of, c.requires.room)) (omega (arith, c.loop-i-test.true, c.count-count.ensures, read_all_of)) c.byte.ensures c.loop-i.invariant
