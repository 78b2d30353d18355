use Rattle.std.proofs.Common.{◌≡◌, ◌∙◌, length, sym, ap, subst, arith}
use Rattle.mcs_check.specs.LevelSets.{AreAllAllowedLevels, levels_of_first_keys}
use Rattle.mcs_check.proofs.LevelSets.{are_all_allowed_levels}
use Rattle.mcs_check.proofs.level_sets.all_allowed_levels.Goals as goal

pub returns-clause-all : goal.returns-clause-all
returns-clause-all c = λ b count.
    let limits = c.args.limits.now in
    let len : length c.keys-i-end.result.now ≡ length limits.keys = ap length c.keys-i-end.ensures in
    let end : c.loop-i.i ≡ length limits.keys = omega arith in
    subst (AreAllAllowedLevels limits b) (sym (c.loop-i.invariant.all ∙ ap (levels_of_first_keys limits) end)) (are_all_allowed_levels limits b count)
