use Rattle.std.proofs.Common.{◌<◌, ◌∙◌, arith, length, sym}
use Rattle.std.proofs.lemmas.List.{get_or_read}
use Rattle.std.proofs.lemmas.Bool.Decides.{nat_tests}
use Rattle.mcs_bench.proofs.OrderedLists.{insert-at-first-greater}
use Rattle.mcs_bench.proofs.breaks.insertion_index.Goals as goal

pub returns-then-lt-clause-index : goal.returns-then-lt-clause-index
returns-then-lt-clause-index c =
    let here = get_or_read c.args.list.now c.loop-i.i c.index-list-i.result (omega arith) c.index-list-i.is 0 in
    let test = sym c.lt.ensures ∙ c.if-lt.true in
    let less : c.args.at < c.index-list-i.result = grind (arith, nat_tests, test) in
    insert-at-first-greater c.args.list.now c.loop-i.i c.args.at (omega arith) c.loop-i.invariant (λ _. omega arith)

pub returns-clause-index : goal.returns-clause-index
returns-clause-index c =
    insert-at-first-greater c.args.list.now (length c.args.list.now) c.args.at (omega arith) (λ j h. c.loop-i.invariant j (omega arith)) (λ h. absurd (omega arith))
