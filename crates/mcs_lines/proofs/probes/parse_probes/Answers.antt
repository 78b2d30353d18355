use Rattle.std.proofs.Common.{◌-◌, ◌∙◌, sym, arith, rules}
use Rattle.mcs_model.specs.TextLines.{words_of}
use Rattle.mcs_lines.proofs.ProbeLists.{parsed_so_far_after_place}
use Rattle.mcs_lines.proofs.probes.parse_probes.Goals as goal

pub loop-word-preserved-in-Ok : goal.loop-word-preserved-in-Ok
loop-word-preserved-in-Ok c =
    parsed_so_far_after_place _ _ (words_of c.in-Some.later_words.now) _ _ c.loop-word.room (c.loop-word.room - 1) _ _ c.in-Ok.probe (let other = c.if-room-eq0.false in omega arith) c.in-Some.ensures (sym c.parse_probe.ensures ∙ c.in-Ok.is) c.push.ensures.items c.loop-word.invariant

pub returns-then-room-eq0 : goal.returns-then-room-eq0
returns-then-room-eq0 c = search rules
