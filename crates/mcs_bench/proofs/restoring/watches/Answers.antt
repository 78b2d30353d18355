use Rattle.std.proofs.Common.{◌≡◌, ◌∙◌, ◌/◌, ◌%◌, ℕ, List, ap, arith, length, length-take-le, take, get_or}
use Rattle.mcs_model.specs.Listed.{with_listed}
use Rattle.mcs_model.specs.Bus.{ram_index}
use Rattle.mcs_bench.proofs.OrderedLists.{with_listed-next-element, room-if-fewer-than-eight}
use Rattle.mcs_bench.proofs.restoring.watches.Goals as goal

pub loop-at-preserved : goal.loop-at-preserved
loop-at-preserved c =
    let list : List ℕ = c.args.list.now in
    let i : ℕ = c.loop-at.at-index in
    let x : ℕ = get_or list i 0 in
    let same : ram_index (x / 256) (x % 256) ≡ x = omega arith in
    c.set.ensures ∙ ap (λ (xs : List ℕ). with_listed xs (ram_index (x / 256) (x % 256))) c.loop-at.invariant ∙ ap (with_listed (take i list)) same ∙ with_listed-next-element list i c.requires.rising c.loop-at-test.true

pub set-requires-clause-room : goal.set-requires-clause-room
set-requires-clause-room c =
    let i : ℕ = c.loop-at.at-index in
    let list : List ℕ = c.args.list.now in
    let all : length c.loop-at.watches ≡ length (take i list) = ap length c.loop-at.invariant in
    let some : length (take i list) ≡ i = length-take-le i list (omega arith) in
    let few = c.requires.few in
    room-if-fewer-than-eight _ (length c.loop-at.watches) (omega arith)
