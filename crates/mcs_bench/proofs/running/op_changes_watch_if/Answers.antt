use Rattle.std.proofs.Common.{refl, inl}
use Rattle.mcs_bench.proofs.running.op_changes_watch_if.Goals as goal

pub returns-then-not-this : goal.returns-then-not-this
returns-then-not-this g c =
    let e = c.if-not-this.true in
    let h = rw e at c.requires.none_watched in
    inl (inl (h refl), refl)
