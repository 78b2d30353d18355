use Rattle.std.proofs.Common.{◌≡◌, ◌<◌, ℕ, [], length, get_or, slice_set, arith, ◌∙◌, sym, ap, None, get_or-set_other, inl, inr}
use Rattle.std.proofs.lemmas.Grind.{get_or-set_at}
use Rattle.std.proofs.lemmas.Bool.{cases_eq}
use Rattle.std.proofs.lemmas.List.{length-set}
use Rattle.mcs_nibble.proofs.TableLemmas.{table_of-unique}
use Rattle.mcs_model.specs.declared.board.Line.{Line}
use Rattle.mcs_model.specs.Bus.{BusState}
use Rattle.mcs_model.specs.Boards.{board_fault_of, chain_count}
use Rattle.mcs_board.specs.ClockEdges.{bits_after_latch_change, state_after_latch_change}
use Rattle.mcs_board.proofs.ClockLemmas.{latch_change-independent_of_chains}
use Rattle.mcs_board.proofs.rig.Rig.shift_clocked_chains.Goals as goal

all_chains-clocked : (s t : BusState) (port : Line) (before after : ℕ) → t ≡ record s { chains = t.chains } → length t.chains ≡ chain_count s.board → ((k : ℕ) → k < chain_count s.board → get_or t.chains k [] ≡ bits_after_latch_change s port before after k (get_or s.chains k [])) → t ≡ state_after_latch_change port before after s
unfolding state_after_latch_change
all_chains-clocked s t port before after same l h = same ∙ ap (λ cs. record s { chains = cs }) (table_of-unique (chain_count s.board) _ t.chains [] l h)

-- the state after a latch change that affects only chain `i`, which is shifted if its clock line
-- rises
abbrev after_chain_clock : BusState → Line → ℕ → ℕ → ℕ → BusState
after_chain_clock s port before after i = record s { chains = slice_set s.chains i (bits_after_latch_change s port before after i (get_or s.chains i [])) }

-- If `s` and `t` differ only in their chains, clocking chain `i` of `t` gives the new bits that
-- `bits_after_latch_change` computes from `s`.
clocked_chains-equal : (s t u : BusState) (port : Line) (before after i : ℕ) → board_fault_of s.board ≡ None → i < chain_count s.board → t ≡ record s { chains = t.chains } → u ≡ after_chain_clock t port before after i → u.chains ≡ slice_set t.chains i (bits_after_latch_change s port before after i (get_or t.chains i []))
clocked_chains-equal s t u port before after i v l same new =
    ap (λ (x : BusState). x.chains) new
    ∙ ap (slice_set t.chains i) (ap (λ x. bits_after_latch_change x port before after i (get_or t.chains i [])) same ∙ latch_change-independent_of_chains s t.chains port before after i (get_or t.chains i []) v l)

only_chains-change : (s t u : BusState) (port : Line) (before after i : ℕ) → t ≡ record s { chains = t.chains } → u ≡ after_chain_clock t port before after i → u ≡ record s { chains = u.chains }
only_chains-change s t u port before after i same new =
    let x = slice_set t.chains i (bits_after_latch_change t port before after i (get_or t.chains i [])) in
    new ∙ ap (λ (y : BusState). record y { chains = x }) same ∙ ap (λ cs. record s { chains = cs }) (sym (ap (λ (y : BusState). y.chains) new))

pub returns : goal.returns
returns g c =
    let e = c.chain_count-i-end.ensures.count in
    all_chains-clocked c.args.self.now c.loop-i.self c.args.port c.args.before c.args.after c.loop-i.invariant.same c.loop-i.invariant.len (λ k h. c.loop-i.invariant.done k (omega arith))

pub loop-i-preserved : goal.loop-i-preserved
loop-i-preserved g c =
    let s = c.args.self.now in
    let t = c.loop-i.self in
    let i = c.loop-i.i in
    let inv = c.loop-i.invariant in
    let port = c.args.port in
    let before = c.args.before in
    let after = c.args.after in
    let e = c.chain_count-i-end.ensures.count in
    let within : i < chain_count s.board = omega arith in
    let there : i < length t.chains = let n = inv.len in omega arith in
    let new = clocked_chains-equal s t c.clock_chain.new.self port before after i c.parts-parts.ensures.valid within inv.same c.clock_chain.ensures in
    record {
      same = only_chains-change s t c.clock_chain.new.self port before after i inv.same c.clock_chain.ensures;
      len = ap length new ∙ length-set t.chains i _ ∙ inv.len;
      done = λ k h. ap (λ cs. get_or cs k []) new ∙ elim (cases_eq k i) [
        | inl q ↦ get_or-set_at t.chains i k _ [] q there ∙ ap (bits_after_latch_change s port before after i) (inv.rest i (omega arith)) ∙ ap (λ j. bits_after_latch_change s port before after j (get_or s.chains j [])) (sym q)
        | inr ne ↦ get_or-set_other t.chains i k _ [] ne ∙ inv.done k (omega arith)
      ];
      rest = λ k h. ap (λ cs. get_or cs k []) new ∙ get_or-set_other t.chains i k _ [] (λ q. omega arith) ∙ inv.rest k (omega arith);
    }
