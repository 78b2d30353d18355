use Rattle.std.proofs.Common.{sym, subst, ◌∙◌}
use Rattle.std.proofs.lemmas.List.{take_more}
use Rattle.mcs_model.specs.Cutting.{HasNoSeparator}
use Rattle.mcs_model.specs.TextLines.{is_blank}
use Rattle.mcs_model.proofs.Cutting.{HasNoSeparator-snoc}
use Rattle.mcs_lines.proofs.words.first_word_length.Goals as goal

pub loop-at-preserved : goal.loop-at-preserved
loop-at-preserved c = subst (HasNoSeparator is_blank) (sym (take_more c.args.line.now c.loop-at.at 0 c.loop-at-test.true))
    (HasNoSeparator-snoc is_blank _ _ c.loop-at.invariant (sym c.is_blank.ensures ∙ c.if-is_blank.false))
