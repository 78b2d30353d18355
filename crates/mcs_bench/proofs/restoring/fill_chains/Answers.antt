use Rattle.std.proofs.Common.{◌∙◌, List, ℕ, [], sym, ap, arith}
use Rattle.std.proofs.lemmas.List.{ext_get_or}
use Rattle.mcs_bench.specs.States.{bits_of_chains}
use Rattle.mcs_bench.proofs.ChainBits.{bits_of_chains-length}
use Rattle.mcs_bench.proofs.restoring.fill_chains.Goals as goal

pub returns : goal.returns
returns c =
    let s = c.args.rig.now in
    let chains = c.args.chains.now in
    let count = bits_of_chains-length chains in
    c.loop-i.invariant.others ∙ ap (λ (xs : List (List ℕ)). record s { chains = xs }) (ext_get_or [] c.loop-i.rig.chains (bits_of_chains chains) (c.loop-i.invariant.len ∙ sym count) (λ k h. c.loop-i.invariant.done k (let len = c.loop-i.invariant.len in omega arith)))
