use Rattle.mcs_sets.proofs.Excluded.{conjunction-unmet}
use Rattle.mcs_sets.proofs.excluding.excludes_conjunction.Goals as goal

pub returns-then-excludes : goal.returns-then-excludes
returns-then-excludes c = λ _ s of is. conjunction-unmet s c.args.conditions.now c.loop-i.i _ c.loop-i-test.true (c.excludes.ensures c.if-excludes.true s of is)
