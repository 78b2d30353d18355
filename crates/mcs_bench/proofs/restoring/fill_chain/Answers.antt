use Rattle.std.proofs.Common.{◌≡◌, ◌<◌, ◌∙◌, ℕ, List, [], refl, ap, get_or, slice_set, length, arith}
use Rattle.std.proofs.lemmas.List.{get_or-set_same, set-set}
use Rattle.mcs_model.specs.Bus.{BusState}
use Rattle.mcs_bench.proofs.Filling.{filled-list-is-goal, filled-after-set}
use Rattle.mcs_bench.proofs.restoring.fill_chain.Goals as goal

pub loop-i-preserved : goal.loop-i-preserved
loop-i-preserved c =
    let s = c.args.rig.now in
    let r = c.loop-i.rig in
    let x = c.args.chain in
    let i = c.loop-i.i in
    let p = get_or r.chains x [] in
    let q = slice_set p i c.low_of.result in
    let here : x < length s.chains = omega (arith, c.requires.chain_exists, c.show_state_is_valid.ensures.in_range.chains) in
    let rows : slice_set r.chains x q ≡ slice_set s.chains x q = ap (λ (t : BusState). slice_set t.chains x q) c.loop-i.invariant.others ∙ set-set s.chains x p q in
    let row : get_or (slice_set r.chains x q) x [] ≡ q = ap (λ (l : List (List ℕ)). get_or l x []) rows ∙ get_or-set_same s.chains x q [] here in
    let bit : c.low_of.result ≡ get_or c.args.bits.now i 0 = (let b = c.requires.fit.below i 0 (omega arith) in omega arith) in
    rw (c.set_chain_bit.ensures, row) (record {
      others = ap (λ (t : BusState). record t { chains = slice_set t.chains x q }) c.loop-i.invariant.others ∙ ap (λ (l : List (List ℕ)). record s { chains = l }) (set-set s.chains x p q);
      filled = filled-after-set (get_or s.chains x []) c.args.bits.now p i i c.low_of.result (omega arith) refl bit c.loop-i.invariant.filled;
    })

pub returns : goal.returns
returns c =
    let s = c.args.rig.now in
    let x = c.args.chain in
    c.loop-i.invariant.others ∙ ap (λ (row : List ℕ). record s { chains = slice_set s.chains x row }) (filled-list-is-goal (get_or s.chains x []) c.args.bits.now (get_or c.loop-i.rig.chains x []) c.loop-i.i (omega arith) c.loop-i.invariant.filled)
