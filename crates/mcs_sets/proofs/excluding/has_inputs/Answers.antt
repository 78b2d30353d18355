use Rattle.std.proofs.Common.{below_more, arith}
use Rattle.mcs_sets.proofs.Memory.{member-below-16}
use Rattle.mcs_sets.proofs.excluding.has_inputs.Goals as goal

pub loop-n-preserved : goal.loop-n-preserved
loop-n-preserved c = below_more _ _ c.loop-n.invariant (c.has_input_if_member.ensures c.if-not-has_input_if_member.false)

pub returns : goal.returns
returns c = λ _ n h. c.loop-n.invariant n (let end = c.loop-n-test.false in let n_below_16 = member-below-16 c.args.set n h in omega arith) h
