use Rattle.std.proofs.Common.{arith}
use Rattle.mcs_model.specs.Boards.{no_chain}
use Rattle.mcs_wiring.specs.BoardText.{chain_lines}
use Rattle.mcs_model.specs.TextLines.{text_of}
use Rattle.mcs_wiring.proofs.PartTexts.{append_text_of_next_item}
use Rattle.mcs_wiring.proofs.writing.push_chains.Goals as goal

pub loop-chain-preserved : goal.loop-chain-preserved
loop-chain-preserved c =
    append_text_of_next_item (λ x. text_of (chain_lines x)) c.args.chains.now c.loop-chain.chain-index no_chain _ _ _ (omega arith) c.loop-chain.invariant c.in_ok-push_chain.ensures
