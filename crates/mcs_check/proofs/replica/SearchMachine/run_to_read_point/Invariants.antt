use Rattle.std.proofs.Common.{◌≡◌, ◌≤◌, ◌-◌, true, false}
use Rattle.mcs_drive.specs.TrackedMachine.{condition_holds_at}
use Rattle.mcs_check.specs.Conditions.{meets_none, observer_of_property}
use Rattle.mcs_check.specs.Memory.{KeepsMemory}
use Rattle.mcs_check.proofs.Going.{RunSoFar}
use Rattle.mcs_check.proofs.Scoping.{meets_none_without_mistakes}
use Rattle.mcs_check.proofs.replica.SearchMachine.run_to_read_point.Given as goal

abbrev pub invariant-loop : goal.invariant-loop
invariant-loop l = record {
  left : l.left ≤ l.most;
  walked : RunSoFar (observer_of_property l.property) (meets_none l.property.never_lists) (l.most - l.left) l.fn.self l.self;
  known : l.has_all_lists ≡ true → l.changed ≡ false → meets_none_without_mistakes l.property.never_lists l.self ≡ true;
  memory : l.keeps_memory ≡ true → KeepsMemory l.fn.self.1 l.self.1;
  opening : l.has_opening ≡ true → l.changed ≡ false → l.is_open ≡ condition_holds_at (observer_of_property l.property) l.self;
}
