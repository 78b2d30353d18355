-- The meaning of the numbers that the page's calls report.
use Rattle.std.specs.Prelude.{◌≡◌, ◌<◌, ◌≤◌, ℕ, List, length, drop}
use Rattle.mcs_journal.specs.declared.fault.StoreFault.TheVariants as store_fault
use Rattle.mcs_wasm.specs.Page.{AnswersInBuffer, AnswersAndSettles, IsServeFault, WouldAnswer}
use Rattle.mcs_wasm.specs.declared.fault.ServeFault.{ServeFault}
use Rattle.mcs_wasm.specs.declared.fault.ServeFault.TheVariants.{Refused, NoRoom}
use Rattle.mcs_shell.specs.RefusalNumbers.{store_fault_number}
use Rattle.mcs_shell.specs.Shell.{exit_status_of}
use Rattle.mcs_shell.specs.declared.ends.ShellEnd.{ShellEnd}

-- Holds if a shell executed the input on the session in the file. The number is then the exit
-- status of the shell, and the answers are the first `count` bytes of the buffer.
pub record ReportsAnswers (file input : List ℕ) (number count : ℕ) (buffer buffer' after : List ℕ)
    : Type 0 where
  pub end : ShellEnd
  pub number_reported : number ≡ exit_status_of end
  pub answers : AnswersInBuffer file input end count buffer buffer' after

-- Holds if a shell executed the input as in `ReportsAnswers`, and a snapshot then replaced the
-- records of the file.
pub record ReportsAnswersAndSettles (file input : List ℕ) (number count : ℕ)
    (buffer buffer' after : List ℕ) : Type 0 where
  pub end : ShellEnd
  pub number_reported : number ≡ exit_status_of end
  pub answers : AnswersAndSettles file input end count buffer buffer' after

-- Holds if executing the input would give these answers and this number, as in `ReportsAnswers`.
-- This condition does not say which bytes the file would then have.
pub record ReportsDryRun (file input : List ℕ) (number count : ℕ) (buffer buffer' : List ℕ)
    : Type 0 where
  pub end : ShellEnd
  pub number_reported : number ≡ exit_status_of end
  pub answers : WouldAnswer file input end count buffer buffer'

-- the number that a call reports for an error: the refusal number, or 0 if the answers do not fit
-- into the buffer
abbrev pub number_of_fault : ServeFault → ℕ
number_of_fault (Refused fault) = store_fault_number fault
number_of_fault (NoRoom count) = 0

-- the count that a call reports for an error: the number of bytes in the answers if they do not fit
-- into the buffer, otherwise 0
abbrev pub count_of_fault : ServeFault → ℕ
count_of_fault (Refused fault) = 0
count_of_fault (NoRoom count) = count

-- Holds if a call with this file and this input can fail with the error that the number and the
-- count report. The buffer has `room` bytes.
pub record ReportsFault (file input : List ℕ) (number count room : ℕ) : Type 0 where
  pub fault : ServeFault
  pub number_reported : number ≡ number_of_fault fault
  pub count_reported : count ≡ count_of_fault fault
  pub is_fault : IsServeFault fault file input room

-- Holds if this error can prevent the prover from writing its answer line: memory ran out, or the
-- line has more than the `room` bytes of the buffer.
abbrev pub IsProverFault : ServeFault → ℕ → Type 0
IsProverFault (Refused store_fault.NoMemory) room = Unit {0}
IsProverFault (Refused fault) room = ⊥
IsProverFault (NoRoom count) room = room < count

-- holds if the number and the count report an error that can prevent the prover from writing its
-- answer line
pub record ReportsProverFault (number count room : ℕ) : Type 0 where
  pub fault : ServeFault
  pub number_reported : number ≡ number_of_fault fault
  pub count_reported : count ≡ count_of_fault fault
  pub is_fault : IsProverFault fault room

-- holds if a line of `count` bytes fits into the buffer, and all bytes of the buffer after its
-- first `count` bytes are unchanged
pub record HasLineAtFront (count : ℕ) (buffer buffer' : List ℕ) : Type 0 where
  pub fits : count ≤ length buffer
  pub rest_unchanged : drop count buffer' ≡ drop count buffer
