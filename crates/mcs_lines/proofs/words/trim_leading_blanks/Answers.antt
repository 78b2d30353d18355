use Rattle.std.proofs.Common.{◌∙◌, ap, sym, subst}
use Rattle.std.proofs.lemmas.List.{drop_all}
use Rattle.mcs_model.specs.TextLines.{words_of}
use Rattle.mcs_model.specs.Cutting.{StartsWithoutBlank}
use Rattle.mcs_model.proofs.LineWords.{starts_without_blank-at_nonblank, words_of-past_blank}
use Rattle.mcs_lines.proofs.words.trim_leading_blanks.Goals as goal
use Rattle.mcs_model.proofs.ListLemmas.{take_rest-unchanged}

pub loop-at-preserved : goal.loop-at-preserved
loop-at-preserved c = words_of-past_blank c.args.line.now c.loop-at.at c.loop-at-test.true (sym c.is_blank.ensures ∙ c.if-not-is_blank.false) ∙ c.loop-at.invariant

pub returns-then-not-is_blank-clause-words : goal.returns-then-not-is_blank-clause-words
returns-then-not-is_blank-clause-words c = ap words_of (take_rest-unchanged c.loop-at.at c.args.line.now) ∙ c.loop-at.invariant

pub returns-then-not-is_blank-clause-begins : goal.returns-then-not-is_blank-clause-begins
returns-then-not-is_blank-clause-begins c = subst StartsWithoutBlank (sym (take_rest-unchanged c.loop-at.at c.args.line.now))
    (starts_without_blank-at_nonblank c.args.line.now c.loop-at.at c.loop-at-test.true (sym c.is_blank.ensures ∙ c.if-not-is_blank.true))

pub returns-clause-words : goal.returns-clause-words
returns-clause-words c = ap words_of (sym (drop_all c.loop-at.at c.args.line.now c.loop-at-test.false)) ∙ c.loop-at.invariant
