use Rattle.std.proofs.Common.{◌≡◌, ◌∙◌, ap, arith, ℕ, Option, None, replicate}
use Rattle.mcs_asm.proofs.byte_cells.ByteCells.new.Goals as goal

pub returns : goal.returns
returns c =
    let all_cells : c.loop-n._n ≡ 4096 = omega (arith, c.loop-n.invariant.1, c.loop-n-test.false) in
    c.loop-n.invariant.0 ∙ ap (λ (n : ℕ). replicate {A = Option ℕ} n None) all_cells
