use Rattle.std.proofs.Common.{◌∙◌, sym, subst}
use Rattle.std.specs.Cmp.Lexicographic.{same_text}
use Rattle.mcs_answers.specs.UnchangedProbes.{StaysSame}
use Rattle.mcs_answers.proofs.UnchangedProbes.{return-addresses-stay-same}
use Rattle.mcs_answers.proofs.traces.probe_stays_same.Goals as goal

pub returns-in-ReturnAddresses : goal.returns-in-ReturnAddresses
returns-in-ReturnAddresses c = λ on. subst (StaysSame c.args.op.now c.args.before.now c.args.after.now) (sym c.in-ReturnAddresses.is) (return-addresses-stay-same c.args.op.now c.args.before.now c.args.after.now (same_text c.args.before.now.ret c.args.after.now.ret (sym on ∙ c.eq-in-ReturnAddresses.ensures)))

pub returns-in_default : goal.returns-in_default
returns-in_default c = λ on. c.outside_probe_stays_same.ensures on c.args.before.now c.args.after.now
