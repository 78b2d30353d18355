use Rattle.std.proofs.Common.{◌≡◌, ◌∙◌, ◌<◌, ℕ, List, ap, arith, take, get_or}
use Rattle.std.proofs.lemmas.List.Elements.{All-get_or}
use Rattle.mcs_model.specs.Listed.{with_listed}
use Rattle.mcs_bench.proofs.OrderedLists.{with_listed-next-element}
use Rattle.mcs_bench.proofs.restoring.breakpoints.Goals as goal

pub loop-at-preserved : goal.loop-at-preserved
loop-at-preserved c =
    let list = c.args.list.now in
    let i = c.loop-at.at-index in
    let small = All-get_or (λ a. a < 4096) list i 0 c.loop-at-test.true c.requires.addresses in
    let same : c.plus.result ≡ get_or list i 0 = omega arith in
    c.set.ensures ∙ ap (λ (xs : List ℕ). with_listed xs c.plus.result) c.loop-at.invariant ∙ ap (with_listed (take i list)) same ∙ with_listed-next-element list i c.requires.rising c.loop-at-test.true
