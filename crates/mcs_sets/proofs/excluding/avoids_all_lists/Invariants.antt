use Rattle.std.proofs.Common.{◌≡◌, drop, map}
use Rattle.mcs_drive.specs.TrackedMachine.{TrackedMachine}
use Rattle.mcs_check.specs.Conditions.{meets_none}
use Rattle.mcs_sets.specs.Entries.{Covers}
use Rattle.mcs_sets.specs.Closure.{IsBusOf}
use Rattle.mcs_sets.proofs.excluding.avoids_all_lists.Given as goal

abbrev pub invariant-loop-i : goal.invariant-loop-i
invariant-loop-i l =
    (s : TrackedMachine) → IsBusOf l.rig.board l.rig.rom s.1 → Covers l.entry s →
    meets_none (map (λ n. n.items) (drop l.i l.never_lists)) s ≡ meets_none (map (λ n. n.items) l.never_lists) s
