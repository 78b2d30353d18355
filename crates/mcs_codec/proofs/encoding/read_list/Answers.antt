use Rattle.std.proofs.Common.{sym, ◌∙◌, arith}
use Rattle.std.proofs.lemmas.List.{length_push}
use Rattle.mcs_codec.proofs.Loops.{read_times_reads_one_value, read_times_past_count}
use Rattle.mcs_codec.proofs.encoding.read_list.Goals as goal

pub returns-in_err-read : goal.returns-in_err-read
returns-in_err-read g c =
    let next = read_times_reads_one_value g.T.Decode.reading c.loop.items.items c.args.count c.loop.counter c.loop.reader c.loop-test.true in
    rw c.from_residual.ensures (sym (rw (sym c.in_err-read.ensures) at next) ∙ c.loop.invariant.all)

pub loop-preserved : goal.loop-preserved
loop-preserved g c =
    let next = read_times_reads_one_value g.T.Decode.reading c.loop.items.items c.args.count c.loop.counter c.loop.reader c.loop-test.true in
    rw c.push.ensures.items (record {
      count = omega (arith, length_push c.loop.items.items c.in_ok-read.field-0, c.loop.invariant.count);
      all = sym (rw (sym c.in_ok-read.ensures) at next) ∙ c.loop.invariant.all;
    })

pub returns : goal.returns
returns g c = sym (read_times_past_count g.T.Decode.reading c.loop.items.items c.args.count c.loop.counter c.loop.reader c.loop-test.false) ∙ c.loop.invariant.all
