-- Lemmas about the number of failed reads and of failed writes.
use Rattle.std.proofs.Common.{◌≡◌, ◌≢◌, ℕ, ◌+◌, min, Bool, true, false, List, [], ◌∷◌, ◌++◌, ◌||◌, Option, None, Some, ◌⊎◌, inl, inr, refl, sym, ap, subst, ◌∙◌, append-nil, arith}
use Rattle.std.specs.Io.KnownBytes.{Appends}
use Rattle.mcs_disk.specs.Disk.{DiskState, max_fault_count}
use Rattle.mcs_session.specs.KeptCommands.{IsOpenOnHonestDisk}
use Rattle.mcs_session.specs.SessionState.{SessionState}
use Rattle.mcs_model.specs.declared.command.Command.{Command}
use Rattle.mcs_shell.specs.declared.ends.ShellEnd.{ShellEnd}
use Rattle.mcs_shell.specs.declared.ends.ShellEnd.TheVariants.{End, ReadFault, WriteFault, DeviceFault, InputLimit, NoMemory}
use Rattle.mcs_shell.specs.declared.ends.Outcome.{Outcome}
use Rattle.mcs_shell.specs.declared.ends.Outcome.TheVariants.{Device}
use Rattle.mcs_shell.specs.Faults.{CountsMatchEnd, HasNotFailed, KnownFaults, RanWithoutFault, ServesAllInput, read_faults_after, one_more_fault}
use Rattle.mcs_shell.specs.Headline.{AnswersInOrder}
use Rattle.mcs_shell.specs.Serving.{LeavesSession}
use Rattle.mcs_shell.specs.Shell.{RanShell, ShellRun}
use Rattle.mcs_shell.specs.ShellState.{ShellState, shell_state}
use Rattle.mcs_shell.specs.Transcript.{Exchange, acknowledged_commands, end_caused_by_exchanges, end_caused_by, results_in_order, inputs_in, is_device_fault, reached_commands}
use Rattle.mcs_shell.proofs.RunAnswers.{answers_of_run}
use Rattle.mcs_shell.proofs.ShellLoop.{either_is_some_if_option_or_is_some}
use Rattle.mcs_shell.proofs.ExchangeLists.{has_device_fault}

-- ---- no exchange ends the shell because of a failed read

no_read_fault_by_exchange : (whole : Bool) (o : Outcome) (end : ShellEnd) (faults : KnownFaults) → end_caused_by whole o ≡ Some end → read_faults_after end faults ≡ faults
no_read_fault_by_exchange false o end faults e = let end_is : WriteFault ≡ end = cc e in subst (λ (v : ShellEnd). read_faults_after v faults ≡ faults) end_is refl
no_read_fault_by_exchange true Device end faults e = let end_is : DeviceFault ≡ end = cc e in subst (λ (v : ShellEnd). read_faults_after v faults ≡ faults) end_is refl
no_read_fault_by_exchange true o end faults e = absurd (cc e)

pub no_read_fault_by_exchanges : (xs : List Exchange) (end : ShellEnd) (faults : KnownFaults) → end_caused_by_exchanges xs ≡ Some end → read_faults_after end faults ≡ faults
no_read_fault_by_exchanges [] end faults e = absurd (cc e)
no_read_fault_by_exchanges (x ∷ xs) end faults e = elim (either_is_some_if_option_or_is_some (end_caused_by x.whole x.outcome) (end_caused_by_exchanges xs) end e) [
  | inl h ↦ no_read_fault_by_exchange x.whole x.outcome end faults h
  | inr h ↦ no_read_fault_by_exchanges xs end faults h
]

-- ---- a run without a failed call

count_not_raised_without_fault : (old new : KnownFaults) → HasNotFailed old new → new ≡ one_more_fault old → ⊥
count_not_raised_without_fault None new h e = h
count_not_raised_without_fault (Some n) new h e = let count_unchanged : n ≡ min (n + 1) max_fault_count = cc (sym h.0 ∙ e) in omega (arith, count_unchanged, h.1)

is_device_fault_if_end_is_device_fault : (whole : Bool) (o : Outcome) → end_caused_by whole o ≡ Some DeviceFault → is_device_fault o ≡ true
is_device_fault_if_end_is_device_fault false o e = absurd (cc e)
is_device_fault_if_end_is_device_fault true Device e = refl
is_device_fault_if_end_is_device_fault true o e = absurd (cc e)

or_true_left : (b c : Bool) → b ≡ true → (b || c) ≡ true
or_true_left true c e = refl
or_true_left false c e = absurd (cc e)

or_true_right : (b c : Bool) → c ≡ true → (b || c) ≡ true
or_true_right true c e = refl
or_true_right false c e = e

has_device_fault_if_end_is_device_fault : (xs : List Exchange) → end_caused_by_exchanges xs ≡ Some DeviceFault → has_device_fault xs ≡ true
has_device_fault_if_end_is_device_fault [] e = absurd (cc e)
has_device_fault_if_end_is_device_fault (x ∷ xs) e = elim (either_is_some_if_option_or_is_some (end_caused_by x.whole x.outcome) (end_caused_by_exchanges xs) DeviceFault e) [
  | inl h ↦ or_true_left (is_device_fault x.outcome) (has_device_fault xs) (is_device_fault_if_end_is_device_fault x.whole x.outcome h)
  | inr h ↦ or_true_right (is_device_fault x.outcome) (has_device_fault xs) (has_device_fault_if_end_is_device_fault xs h)
]

device_fault_counted : (failed : Bool) (a b : SessionState) (cs rs : List Command) → failed ≡ true → LeavesSession IsOpenOnHonestDisk failed a b cs rs → Some b.disk.faults ≡ one_more_fault (Some a.disk.faults)
device_fault_counted true a b cs rs e left = ap (λ (n : ℕ). Some n) (left.counts.fault tt)
device_fault_counted false a b cs rs e left = absurd (cc e)

-- If no call failed, and the shell could allocate its buffer, the run reached the end of its input
-- or the input limit.
ends_without_fault : (end : ShellEnd) (r r' : Option (List ℕ)) (a b : ShellState) (ran : RanShell end r r' a b) (read read' written written' : KnownFaults) → CountsMatchEnd end read read' written written'
    → HasNotFailed read read' → HasNotFailed written written' → HasNotFailed (Some a.session.disk.faults) (Some b.session.disk.faults) → end ≢ NoMemory → (end ≡ End) ⊎ (end ≡ InputLimit)
ends_without_fault End r r' a b ran read read' written written' counts_match_end no_read no_write no_call memory = inl refl
ends_without_fault InputLimit r r' a b ran read read' written written' counts_match_end no_read no_write no_call memory = inr refl
ends_without_fault ReadFault r r' a b ran read read' written written' counts_match_end no_read no_write no_call memory = absurd (count_not_raised_without_fault read read' no_read counts_match_end.reader)
ends_without_fault WriteFault r r' a b ran read read' written written' counts_match_end no_read no_write no_call memory = absurd (count_not_raised_without_fault written written' no_write counts_match_end.writer)
ends_without_fault DeviceFault r r' a b ran read read' written written' counts_match_end no_read no_write no_call memory =
    let s = a.session.state in
    let failed : has_device_fault ran.served.exchanges ≡ true = has_device_fault_if_end_is_device_fault ran.served.exchanges (ran.served.halts ∙ ran.ends.1) in
    absurd (count_not_raised_without_fault (Some a.session.disk.faults) (Some b.session.disk.faults) no_call
    (device_fault_counted (has_device_fault ran.served.exchanges) a.session b.session (results_in_order acknowledged_commands s ran.served.exchanges) (results_in_order reached_commands s ran.served.exchanges) failed ran.served.serves.leaves))
ends_without_fault NoMemory r r' a b ran read read' written written' counts_match_end no_read no_write no_call memory = absurd (memory refl)

-- If a run reached the end of its input or the input limit, no failed write, failed device or lack
-- of memory ended the run.
no_fault_at_end_or_limit : (end : ShellEnd) → (end ≡ End) ⊎ (end ≡ InputLimit) → (end ≢ WriteFault) × (end ≢ DeviceFault) × (end ≢ NoMemory)
no_fault_at_end_or_limit end (inl is) = let P : ShellEnd → Type 0 = λ v. (v ≢ WriteFault) × (v ≢ DeviceFault) × (v ≢ NoMemory) in subst P (sym is) (λ e. absurd (cc e), λ e. absurd (cc e), λ e. absurd (cc e))
no_fault_at_end_or_limit end (inr is) = let P : ShellEnd → Type 0 = λ v. (v ≢ WriteFault) × (v ≢ DeviceFault) × (v ≢ NoMemory) in subst P (sym is) (λ e. absurd (cc e), λ e. absurd (cc e), λ e. absurd (cc e))

pub all_input_served_without_fault : {D : Type 0} (state_of : D → DiskState) (run : ShellRun state_of) → RanWithoutFault run → ServesAllInput run
all_input_served_without_fault state_of run h =
    let a = shell_state state_of run.before run.out in
    let b = shell_state state_of run.after run.out' in
    let s = run.before.state in
    let exchanges = run.ran.served.exchanges in
    let end = ends_without_fault run.end run.reader run.reader' a b run.ran h.read h.read' h.written h.written' h.counts_match_end h.reader h.writer h.device h.memory in
    let no_fault = no_fault_at_end_or_limit run.end end in
    let t : AnswersInOrder run.end run.ran.read a b exchanges = answers_of_run run.end run.reader run.reader' a b run.ran in
    let P : List ℕ → Type 0 = λ v. Appends run.out run.out' v in
    record {
      end = end;
      all_served = t.inputs_split ∙ ap (λ v. inputs_in exchanges ++ v) (t.all_served no_fault.0 no_fault.1 no_fault.2) ∙ append-nil (inputs_in exchanges);
      all_sent = subst P (sym (append-nil t.response) ∙ ap (λ v. t.response ++ v) (sym (t.all_sent no_fault.0 no_fault.2)) ∙ t.parts) t.written;
    }
