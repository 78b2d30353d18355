use Rattle.std.proofs.Common.{rules, ◌<◌, length}
use Rattle.mcs_shell.proofs.ShellLoop.{serves_end_if_line_halts, serves_end_after_line}
use Rattle.mcs_shell.proofs.shell.finish.Goals as goal

pub returns-in-Ok-clause-served : goal.returns-in-Ok-clause-served
returns-in-Ok-clause-served g c = let not_empty : 0 < length c.args.unfinished.now.line = search rules in
    serves_end_after_line _ _ _ _ _ _ c.requires not_empty c.in-Ok.ensures.fed c.finish_text-in-Ok.ensures.served

pub returns-in-Err-clause-served : goal.returns-in-Err-clause-served
returns-in-Err-clause-served g c = let not_empty : 0 < length c.args.unfinished.now.line = search rules in
    serves_end_if_line_halts _ _ _ _ c.in-Err.end c.requires not_empty c.in-Err.ensures.fed
