use Rattle.std.proofs.Common.{refl, sym, ap, subst}
use Rattle.mcs_drive.specs.TrackedMachine.{TrackedMachine, cycled}
use Rattle.mcs_check.specs.ReadPoints.{HasRead}
use Rattle.mcs_check.specs.Conditions.{observer_of_property}
use Rattle.mcs_check.proofs.Keeping.{cycle-keeps, keeps-same}
use Rattle.mcs_check.proofs.ValuesRead.{has_read-without_input}
use Rattle.mcs_check.proofs.replica.SearchMachine.run_without_read.Goals as goal

pub returns-clause-read : goal.returns-clause-read
returns-clause-read c =
    let s = c.args.self.now in
    subst (λ (t : TrackedMachine). HasRead (observer_of_property c.args.property.now) c.args.value s t) (sym c.cycle_without_mark.ensures) (has_read-without_input (observer_of_property c.args.property.now) c.args.value s c.show_state_is_valid.ensures.bus.board.valid c.requires)

pub returns-clause-keeps : goal.returns-clause-keeps
returns-clause-keeps c = keeps-same c.args.self.now.1 c.args.self.now.1 c.cycle_without_mark.new.self.1 (cycled (observer_of_property c.args.property.now) c.args.self.now).1 refl (ap (λ (m : TrackedMachine). m.1) c.cycle_without_mark.ensures) (cycle-keeps (observer_of_property c.args.property.now) c.args.self.now)
