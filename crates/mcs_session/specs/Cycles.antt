-- The cycle counts of commands and logs: the number of instruction cycles that a replay may take.
use Rattle.std.specs.Prelude.{ℕ, List, sum_by}
use Rattle.mcs_model.specs.declared.command.Command.{Command}
use Rattle.mcs_model.specs.declared.command.Command.TheVariants.{Run, Step}

-- The cycle count of a command: the number of instruction cycles that its replay may take. It is
-- `n` for a run of `n` cycles, 2 for a step, and 0 for any other command.
abbrev pub replay_cycles : Command → ℕ
replay_cycles (Run n) = n
replay_cycles Step = 2
replay_cycles _ = 0

-- the total of these commands' cycle counts
abbrev pub log_cycles : List Command → ℕ
log_cycles commands = sum_by replay_cycles commands
