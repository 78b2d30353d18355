use Rattle.std.proofs.Common.{◌+◌, ◌-◌, ◌++◌, List, ℕ, length, take, drop, sym, ◌∙◌, ap, arith}
use Rattle.mcs_disk.proofs.WrittenBytes.{put_as_three_parts}
use Rattle.mcs_disk.proofs.disk.overwrite.Goals as goal

pub returns : goal.returns
returns c =
    let k = c.args.at + length c.args.from.now - c.args.at in
    ap (λ (l : List ℕ). take c.args.at c.args.bytes.now ++ (l ++ drop k (drop c.args.at c.args.bytes.now))) c.copy_from_slice.ensures.after
    ∙ sym (put_as_three_parts c.args.at k c.args.from.now c.args.bytes.now c.requires (omega arith))
