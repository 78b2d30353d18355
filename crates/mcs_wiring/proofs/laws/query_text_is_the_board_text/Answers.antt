use Rattle.mcs_wiring.proofs.QueryLines.{query_text_equals_board_text}
use Rattle.mcs_wiring.proofs.laws.query_text_is_the_board_text.Goals as goal

pub returns : goal.returns
returns c = query_text_equals_board_text
