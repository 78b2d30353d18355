use Rattle.std.proofs.Common.{◌≡◌, drop}
use Rattle.mcs_wiring.specs.Parts.{wrong_chain_from}
use Rattle.mcs_wiring.proofs.flawed_part.wrong_chain.Given as goal

abbrev pub invariant-loop-i : goal.invariant-loop-i
invariant-loop-i l = wrong_chain_from l.flaw l.parts l.i (drop l.i l.chains) ≡ wrong_chain_from l.flaw l.parts 0 l.chains
