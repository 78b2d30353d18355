use Rattle.mcs_asm.proofs.ErrorLists.{reported_errors_of_at_most_100}
use Rattle.mcs_asm.proofs.all_errors.push_error_if_any.Goals as goal

pub returns-in-None : goal.returns-in-None
returns-in-None c = rw (c.in-None.is) (reported_errors_of_at_most_100 c.args.errors.now.items c.requires.room)
