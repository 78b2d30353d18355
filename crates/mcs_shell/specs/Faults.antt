-- The number of failed reads and of failed writes for each end of a shell, and runs without a
-- failure.
use Rattle.std.specs.Prelude.{◌≡◌, ◌≢◌, ◌⊎◌, ◌+◌, ◌<◌, ◌++◌, ℕ, min, Option, Some, None, MatchResult, Result}
use Rattle.std.specs.Io.KnownBytes.{Appends}
use Rattle.std.specs.Option.{option_map}
use Rattle.mcs_answers.specs.AnswerTexts.{session_text}
use Rattle.mcs_disk.specs.Disk.{DiskState, max_fault_count}
use Rattle.mcs_shell.specs.declared.ends.ShellEnd.{ShellEnd}
use Rattle.mcs_shell.specs.declared.ends.ShellEnd.TheVariants.{End, ReadFault, WriteFault, InputLimit, NoMemory}
use Rattle.mcs_shell.specs.Shell.{ShellRun, inputs_read}
use Rattle.mcs_shell.specs.ShellState.{KnownBytes}
use Rattle.mcs_shell.specs.Transcript.{answer, results_in_order, inputs_in}

-- the number of calls that have failed, if it is known; the number never rises above
-- `max_fault_count`
abbrev pub KnownFaults : Type 0
KnownFaults = Option ℕ

-- the count after one more failed call
abbrev pub one_more_fault : KnownFaults → KnownFaults
one_more_fault faults = option_map (λ n. min (n + 1) max_fault_count) faults

-- Holds if a call that failed increased the count by one, up to its maximum, and a call that
-- succeeded left the count unchanged.
abbrev pub CountsKnownFault : {T E : Type 0} → KnownFaults → KnownFaults → Result T E → Type 0
CountsKnownFault old new result = MatchResult result (λ x. new ≡ old) (λ e. new ≡ one_more_fault old)

-- the count of failed reads after a shell has ended for this reason, given the count before
abbrev pub read_faults_after : ShellEnd → KnownFaults → KnownFaults
read_faults_after ReadFault faults = one_more_fault faults
read_faults_after end faults = faults

-- the count of failed writes after a shell has ended for this reason, or while the shell
-- continues (`None`), given the count before
abbrev pub write_faults_after : Option ShellEnd → KnownFaults → KnownFaults
write_faults_after (Some WriteFault) faults = one_more_fault faults
write_faults_after halted faults = faults

-- Holds if the counts of failures match the end of a shell. The reader's count rose by one if and
-- only if a failed read ended the shell. The writer's count rose by one if and only if a failed
-- write ended the shell. (A count at its maximum and an unknown count do not change.)
pub record CountsMatchEnd (end : ShellEnd) (read read' written written' : KnownFaults) : Type 0 where
  pub reader : read' ≡ read_faults_after end read
  pub writer : written' ≡ write_faults_after (Some end) written

-- A reader and a writer, as contracts see them. The fields are the bytes that the reader can still
-- return, the bytes that the writer has received, and the number of failed calls of each.
pub record StreamsView : Type 0 where
  pub left : KnownBytes
  pub read_faults : KnownFaults
  pub received : KnownBytes
  pub write_faults : KnownFaults

-- the `StreamsView` of a reader and a writer, from the ghost members of their traits
abbrev pub streams_view : {R W : Type 0} → (R → KnownBytes) → (R → KnownFaults) → (W → KnownBytes)
    → (W → KnownFaults) → R → W → StreamsView
streams_view remaining read_faults contents write_faults reader writer = record {
  left = remaining reader;
  read_faults = read_faults reader;
  received = contents writer;
  write_faults = write_faults writer;
}

-- ---- a run without a failed call

-- Holds if both counts are known, and no call failed between the first count and the second count.
abbrev pub HasNotFailed : KnownFaults → KnownFaults → Type 0
HasNotFailed None new = ⊥
HasNotFailed (Some n) new = (new ≡ Some n) × (n < max_fault_count)

-- Holds if no call of the reader, the writer or the disk failed in a run, and the shell could
-- allocate its buffer. `read` and `read'` are the reader's counts before and after the run, and
-- `written` and `written'` are the writer's counts. (A `ShellRun` does not include these counts.)
pub record RanWithoutFault {D : Type 0} {state_of : D → DiskState} (run : ShellRun state_of) : Type 0 where
  pub read : KnownFaults
  pub read' : KnownFaults
  pub written : KnownFaults
  pub written' : KnownFaults
  pub counts_match_end : CountsMatchEnd run.end read read' written written'
  pub reader : HasNotFailed read read'
  pub writer : HasNotFailed written written'
  pub device : HasNotFailed (Some (state_of run.before.disk).faults)
      (Some (state_of run.after.disk).faults)
  pub memory : run.end ≢ NoMemory

-- Holds if a run served all its input. The run reached the end of its input or the input limit. It
-- served all inputs that it had read, and wrote each answer completely.
pub record ServesAllInput {D : Type 0} {state_of : D → DiskState} (run : ShellRun state_of) : Type 0 where
  pub end : (run.end ≡ End) ⊎ (run.end ≡ InputLimit)
  pub all_served : inputs_read run.ran.read ≡ inputs_in run.ran.served.exchanges
  pub all_sent : Appends run.out run.out' (session_text run.before.state
      ++ results_in_order answer run.before.state run.ran.served.exchanges)
