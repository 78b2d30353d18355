use Rattle.mcs_drive.proofs.SeenMarkLemmas.{shows_next_mark-false-if-no-read}
use Rattle.mcs_check.specs.Conditions.{observer_of_property}
use Rattle.mcs_check.proofs.replica.SearchMachine.run_step.Goals as goal

pub cycle_without_mark-requires-clause-unseen : goal.cycle_without_mark-requires-clause-unseen
cycle_without_mark-requires-clause-unseen c = λ value. shows_next_mark-false-if-no-read (observer_of_property c.args.property.now) c.args.self.now value c.requires.quiet
