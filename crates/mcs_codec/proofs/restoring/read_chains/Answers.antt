use Rattle.std.proofs.Common.{◌≡◌, ◌*◌, ◌++◌, ◌∷◌, [], get_or, arith, sym, ◌∙◌}
use Rattle.std.proofs.lemmas.List.{map_push}
use Rattle.mcs_model.specs.Boards.{no_chain}
use Rattle.mcs_bench.specs.States.{bits_of_chains}
use Rattle.mcs_codec.proofs.Loops.{chains_at_past_last_chain, chains_at_reads_one_chain}
use Rattle.mcs_codec.proofs.restoring.read_chains.Goals as goal

pub returns-in_err-read_bytes : goal.returns-in_err-read_bytes
returns-in_err-read_bytes c =
    let count : c.from.result ≡ 10 * (get_or c.args.chains.now c.loop-chain.chain-index no_chain).chips = c.from.ensures ∙ c.bits.ensures in
    let next = chains_at_reads_one_chain c.args.chains.now c.loop-chain.chain-index no_chain (bits_of_chains c.loop-chain.read.items) c.loop-chain.reader c.loop-chain-test.true in
    rw c.from_residual.ensures (sym (rw (sym (rw count at c.in_err-read_bytes.ensures)) at next) ∙ c.loop-chain.invariant.all)

pub loop-chain-preserved : goal.loop-chain-preserved
loop-chain-preserved c =
    let bits = c.in_ok-read_bytes.field-0 in
    let count : c.from.result ≡ 10 * (get_or c.args.chains.now c.loop-chain.chain-index no_chain).chips = c.from.ensures ∙ c.bits.ensures in
    let next = chains_at_reads_one_chain c.args.chains.now c.loop-chain.chain-index no_chain (bits_of_chains c.loop-chain.read.items) c.loop-chain.reader c.loop-chain-test.true in
    let more : bits_of_chains c.push.new.self.items ≡ bits_of_chains c.loop-chain.read.items ++ bits.items ∷ [] = rw c.push.ensures.items (map_push (λ bits. bits.items) c.loop-chain.read.items bits) in
    record {
      count = omega (arith, c.push.ensures.len, c.loop-chain.invariant.count);
      all = rw more (sym (rw (sym (rw count at c.in_ok-read_bytes.ensures)) at next) ∙ c.loop-chain.invariant.all);
    }

pub returns : goal.returns
returns c = sym (chains_at_past_last_chain c.args.chains.now c.loop-chain.chain-index (bits_of_chains c.loop-chain.read.items) c.loop-chain.reader c.loop-chain-test.false) ∙ c.loop-chain.invariant.all
