-- Lifting: the conversion of a state of version 1 to a state of version 2. Both states give the
-- same results for commands and queries of version 1.
use Rattle.std.specs.Prelude.{◌≡◌, [], IsTrue, List}
use Rattle.mcs_model.specs.declared.command.Command.{Command}
use Rattle.mcs_model.specs.declared.query.Query.{Query}
use Rattle.mcs_model.specs.declared.query.Query.TheVariants as version2_query
use Rattle.mcs_model.specs.Command.{refusal, after, reply}
use Rattle.mcs_model.specs.BenchState.{BenchState}
use Rattle.mcs_model.specs.Fold.{fold}
use Rattle.mcs_model.specs.QueryText.{text_of_query}
use Rattle.mcs_version1.specs.Command.{is_command_of_version_1, refusal_1, after_1, reply_1}
use Rattle.mcs_version1.specs.BenchState.{BenchState1}
use Rattle.mcs_version1.specs.Fold.{fold_1, AreAccepted1}
use Rattle.mcs_version1.specs.QueryText.{Query1, text_of_query_1, Lamps, Regs, Ram, Breaks, Seq}

-- the state of version 2 that has the fields of a state of version 1 and no watches
abbrev pub lift : BenchState1 → BenchState
lift s =
    record { processor = s.processor; bus = s.bus; breakpoints = s.breakpoints; watches = []; seq = s.seq }

abbrev pub lift_query : Query1 → Query
lift_query Lamps = version2_query.Lamps
lift_query Regs = version2_query.Regs
lift_query (Ram bank) = version2_query.Ram bank
lift_query Breaks = version2_query.Breaks
lift_query Seq = version2_query.Seq

-- holds if version 2, in the lifted state, rejects, executes and answers a command as version 1
-- does
pub record IsLifted (s : BenchState1) (c : Command) : Type 0 where
  pub refusal : refusal (lift s) c ≡ refusal_1 s c
  pub after : lift (after_1 s c) ≡ after (lift s) c
  pub reply : reply (lift s) c ≡ reply_1 s c

abbrev pub CommandsLift : Type 0
CommandsLift = (s : BenchState1) (c : Command) → IsTrue (is_command_of_version_1 c) → IsLifted s c

abbrev pub QueriesLift : Type 0
QueriesLift = (s : BenchState1) (q : Query1) → text_of_query (lift_query q) (lift s) ≡ text_of_query_1 q s

abbrev pub FoldsLift : Type 0
FoldsLift =
    (s : BenchState1) (cs : List Command) → AreAccepted1 s cs →
    lift (fold_1 s cs) ≡ fold (lift s) cs
