use Rattle.std.proofs.Common.{◌∙◌}
use Rattle.mcs_lines.proofs.WordParts.{whole_word_probe_if_four_or_more_parts}
use Rattle.mcs_lines.proofs.probes.parse_probe.Goals as goal

pub returns-in-Some-after-2 : goal.returns-in-Some-after-2
returns-in-Some-after-2 c = c.parse_whole_probe-in-Some-after-2.ensures ∙ whole_word_probe_if_four_or_more_parts _ _ _ _ _ _ _
    (rw c.in-Some.is at c.next_part.ensures)
    (rw c.in-Some-after.is at c.next_part-2.ensures)
    (rw c.in-Some-after-2.is at c.next_part-3.ensures)
