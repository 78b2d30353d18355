use Rattle.std.proofs.Common.{length, take, sym, ◌∙◌, arith}
use Rattle.std.proofs.lemmas.List.{take_more_set, take_all, length-set}
use Rattle.mcs_codec.proofs.Loops.{read_times_reads_one_value, read_times_past_count}
use Rattle.mcs_codec.proofs.encoding.read_into.Goals as goal

pub returns-in_err-items : goal.returns-in_err-items
returns-in_err-items g c =
    let next = read_times_reads_one_value g.T.Decode.reading (take c.loop-i.i c.loop-i.items) (length c.loop-i.items) c.loop-i.i c.loop-i.reader (omega arith) in
    rw c.from_residual.ensures (sym (rw (sym c.in_err-items.ensures) at next) ∙ c.loop-i.invariant)

pub loop-i-preserved : goal.loop-i-preserved
loop-i-preserved g c =
    let a = c.in_ok-items.field-0 in
    let next = read_times_reads_one_value g.T.Decode.reading (take c.loop-i.i c.loop-i.items) (length c.loop-i.items) c.loop-i.i c.loop-i.reader (omega arith) in
    rw (take_more_set c.loop-i.items c.loop-i.i a (omega arith), length-set c.loop-i.items c.loop-i.i a) (sym (rw (sym c.in_ok-items.ensures) at next) ∙ c.loop-i.invariant)

pub returns : goal.returns
returns g c =
    let done = read_times_past_count g.T.Decode.reading (take c.loop-i.i c.loop-i.items) (length c.loop-i.items) c.loop-i.i c.loop-i.reader (omega arith) in
    rw (take_all c.loop-i.i c.loop-i.items (omega arith)) at (sym done ∙ c.loop-i.invariant)
