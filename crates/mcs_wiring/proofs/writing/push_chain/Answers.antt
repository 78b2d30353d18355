use Rattle.mcs_wiring.proofs.PartTexts.{chain_text_from_pieces}
use Rattle.mcs_wiring.proofs.writing.push_chain.Goals as goal

pub returns : goal.returns
returns c =
    chain_text_from_pieces _ _ _ _ _ _ c.args.chain.now c.in_ok-push_str.ensures.bytes c.in_ok-push_name.ensures c.in_ok-push_str-2.ensures.bytes
    c.in_ok-push_name-2.ensures c.in_ok-write.ensures.bytes
