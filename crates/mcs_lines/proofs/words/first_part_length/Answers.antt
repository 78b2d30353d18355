use Rattle.std.proofs.Common.{sym, subst, rules}
use Rattle.std.proofs.lemmas.List.{take_more}
use Rattle.mcs_model.specs.Cutting.{HasNoSeparator}
use Rattle.mcs_lines.specs.Words.{is_dot}
use Rattle.mcs_model.proofs.Cutting.{HasNoSeparator-snoc}
use Rattle.mcs_lines.proofs.words.first_part_length.Goals as goal

pub loop-at-preserved : goal.loop-at-preserved
loop-at-preserved c = subst (HasNoSeparator is_dot) (sym (take_more c.args.word.now c.loop-at.at 0 c.loop-at-test.true))
    (HasNoSeparator-snoc is_dot _ _ c.loop-at.invariant (search rules))
