use Rattle.std.proofs.Common.{◌≡◌, ◌++◌, string_bytes, take}
use Rattle.std.specs.List.{flat_map}
use Rattle.mcs_wiring.specs.BoardText.{chain_lines}
use Rattle.mcs_model.specs.TextLines.{text_of}
use Rattle.mcs_wiring.proofs.writing.push_chains.Given as goal

abbrev pub invariant-loop-chain : goal.invariant-loop-chain
invariant-loop-chain l = string_bytes l.out ≡ string_bytes l.initial.out ++ flat_map (λ x. text_of (chain_lines x)) (take l.chain-index l.chains)
