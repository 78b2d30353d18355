use Rattle.std.proofs.Common.{◌∙◌, ◌*◌, List, ℕ, [], sym, ap, subst, below_more, get_or}
use Rattle.mcs_model.specs.declared.board.ChainPart.{ChainPart}
use Rattle.mcs_model.specs.Boards.{chain_bits}
use Rattle.mcs_model.specs.Validity.{AreBelow}
use Rattle.mcs_bench.specs.States.{bits_of_chains}
use Rattle.mcs_bench.proofs.ChainBits.{bits_of_chains-at-index}
use Rattle.mcs_bench.proofs.validity.chains_fit_board.Goals as goal

pub loop-i-preserved : goal.loop-i-preserved
loop-i-preserved c =
    let b = c.args.board.now in
    let chains = c.args.chains.now in
    let i = c.loop-i.i in
    let count = c.from.ensures ∙ c.bits.ensures ∙ ap (λ (p : ChainPart). 10 * p.chips) c.chain.ensures in
    let row = c.as_slice.ensures.value ∙ sym (bits_of_chains-at-index chains i c.index-chains-i.result c.loop-i-test.true c.index-chains-i.is) in
    let here = c.are_below.ensures.0 c.if-not-are_below.false in
    below_more (λ k. AreBelow (chain_bits b k) 2 (get_or (bits_of_chains chains) k [])) i c.loop-i.invariant
    (subst (λ (xs : List ℕ). AreBelow (chain_bits b i) 2 xs) row (subst (λ n. AreBelow n 2 c.as_slice.result.now) count here))
