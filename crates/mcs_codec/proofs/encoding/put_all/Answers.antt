use Rattle.std.proofs.Common.{◌+◌, ◌≤◌, length, take, arith}
use Rattle.std.specs.List.{flat_map}
use Rattle.std.proofs.lemmas.List.Folds.{length-flat_map-take}
use Rattle.mcs_codec.proofs.encoding.put_all.Goals as goal

pub put-end-requires : goal.put-end-requires
put-end-requires g c =
    let f = g.T.Encode.spelling in
    let a = c.item-item.result in
    let room : length (flat_map f (take c.loop-item.item-index c.args.items.now)) + length (f a) ≤ length (flat_map f c.args.items.now) = rw (← c.item-item.is) at (length-flat_map-take f c.args.items.now c.loop-item.item-index a (omega arith)) in
    omega arith
