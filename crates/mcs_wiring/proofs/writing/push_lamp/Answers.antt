use Rattle.mcs_wiring.proofs.PartTexts.{lamp_text_from_pieces}
use Rattle.mcs_wiring.proofs.writing.push_lamp.Goals as goal

pub returns : goal.returns
returns c = lamp_text_from_pieces _ _ _ _ c.args.line c.in_ok-push_str.ensures.bytes c.in_ok-push_name.ensures c.in_ok-push_str-2.ensures.bytes
