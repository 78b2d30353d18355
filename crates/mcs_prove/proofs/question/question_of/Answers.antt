use Rattle.std.proofs.Common.{◌∙◌, sym, ap, rules}
use Rattle.std.proofs.lemmas.List.{get_or_read}
use Rattle.mcs_prove.specs.Questions.{if_valid}
use Rattle.mcs_prove.proofs.Reading.{after_lines_from_next_line}
use Rattle.mcs_prove.proofs.question.question_of.Goals as goal

pub loop-i-preserved : goal.loop-i-preserved
loop-i-preserved c =
    after_lines_from_next_line (λ l. l.now) c.loop-i.question c.read_line.new.self c.in_ok-lines.lines.items c.loop-i.i c.index.result.now (search rules) (get_or_read c.in_ok-lines.lines.items _ _ (search rules) c.index.ensures c.index.result.now) (sym c.in_ok-read_line.ensures ∙ ap (λ k. if_valid k c.read_line.new.self) c.if-not-branch.false)
    ∙ c.loop-i.invariant
