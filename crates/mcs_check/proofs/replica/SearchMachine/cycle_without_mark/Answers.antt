use Rattle.std.proofs.Common.{◌∙◌, ℕ, false, length, ap}
use Rattle.mcs_drive.specs.TrackedMachine.{cycled, seen_count_after}
use Rattle.mcs_check.specs.Conditions.{observer_of_property}
use Rattle.mcs_check.specs.ReadPoints.{with_seen}
use Rattle.mcs_check.proofs.ValuesRead.{seen_count_correct-if_no_mark_shown}
use Rattle.mcs_check.proofs.replica.SearchMachine.cycle_without_mark.Goals as goal

pub returns : goal.returns
returns c =
    let w = observer_of_property c.args.property.now in
    let s = c.args.self.now in
    let seen = c.seen_after-seen.ensures ∙ ap (λ b. seen_count_after (length w.marks) s.2.seen b false) c.requires.open in
    c.cycle.ensures ∙ ap (λ (n : ℕ). with_seen n (cycled w s)) seen ∙ seen_count_correct-if_no_mark_shown w s c.requires.unseen
