use Rattle.mcs_lines.proofs.WordParts.{poke_rejects_place_of_five_or_more_parts}
use Rattle.mcs_lines.proofs.places.parse_poke.Goals as goal

pub returns-in-Some-after-3 : goal.returns-in-Some-after-3
returns-in-Some-after-3 c = poke_rejects_place_of_five_or_more_parts _ _ _ _ _ _ _ _ _ _
    (rw c.in-Some.is at c.next_part.ensures)
    (rw c.in-Some-after.is at c.next_part-2.ensures)
    (rw c.in-Some-after-2.is at c.next_part-3.ensures)
    (rw c.in-Some-after-3.is at c.next_part-4.ensures)
