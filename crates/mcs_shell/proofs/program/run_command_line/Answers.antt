use Rattle.std.proofs.Common.{Option, None, Some, IfSome}
use Rattle.mcs_shell.proofs.program.run_command_line.Goals as goal

if_some_by_implication : {A : Type 0} (o : Option A) (P Q : A → Type 0) → ((a : A) → P a → Q a) → IfSome o P → IfSome o Q
if_some_by_implication (Some a) P Q f h = f a h
if_some_by_implication None P Q f h = tt

pub returns-in-Ok-clause-served : goal.returns-in-Ok-clause-served
returns-in-Ok-clause-served c =
    if_some_by_implication c.run_arguments.result.session _ _ (λ after served. record {
      arguments = _;
      streams = _;
      streams' = _;
      served = served;
    }) c.run_arguments.ensures.served
