use Rattle.std.proofs.Common.{arith}
use Rattle.mcs_nibble.proofs.TableLemmas.{table_of-unique}
use Rattle.mcs_wiring.specs.Wiring.{part_at}
use Rattle.mcs_wiring.proofs.reading.parts_by_number.Goals as goal

pub returns : goal.returns
returns g c =
    table_of-unique g.row.N (part_at c.args.none c.args.parts.now) c.loop-i.parts_by_number c.args.none c.loop-i.invariant.size
    (λ k h. c.loop-i.invariant.so_far k (omega arith))
