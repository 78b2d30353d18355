use Rattle.mcs_shell.proofs.ShellLoop.{serves_end_outside_text, serves_end_in_text}
use Rattle.mcs_shell.proofs.shell.finish_text.Goals as goal

pub returns-in-None-clause-served : goal.returns-in-None-clause-served
returns-in-None-clause-served g c = serves_end_outside_text _ _ c.requires c.in-None.ensures

pub returns-in-Some-clause-served : goal.returns-in-Some-clause-served
returns-in-Some-clause-served g c = serves_end_in_text _ _ _ _ _ _ c.requires c.in-Some.ensures c.serve_unfinished_text.ensures.served
