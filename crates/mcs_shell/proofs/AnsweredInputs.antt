-- The answer to each kind of input, and the session after the input.
use Rattle.std.proofs.Common.{◌≡◌, ◌≢◌, ◌↔◌, ◌||◌, ◌++◌, ℕ, Bool, true, false, List, [], ◌∷◌, Option, Some, None, Result, Ok, Err, IfErr, OnErr, OnOk, inl, inr, sym, ap, append-nil, ◌∙◌, refl, subst}
use Rattle.mcs_disk.specs.Disk.{CountsFault, DiskState}
use Rattle.mcs_model.specs.declared.command.Command.{Command}
use Rattle.mcs_model.specs.declared.command.Reply.{Reply}
use Rattle.mcs_model.specs.declared.refusals.BenchFault.{BenchFault}
use Rattle.mcs_model.specs.Command.{refusal, after, reply}
use Rattle.mcs_model.specs.RefusalNumbers.{bench_fault_number}
use Rattle.mcs_model.specs.declared.refusal_numbers.TheConstants.{CLOSED, DEVICE, NO_MEMORY}
use Rattle.mcs_model.specs.BenchState.{BenchState}
use Rattle.mcs_session.specs.declared.fault.SessionFault.{SessionFault}
use Rattle.mcs_session.specs.declared.fault.SessionFault.TheVariants as fault
use Rattle.mcs_shell.specs.declared.ends.Outcome.{Outcome}
use Rattle.mcs_shell.specs.declared.ends.Outcome.TheVariants.{Answered, Device, Closed, NoMemory}
use Rattle.mcs_lines.specs.declared.requests.Request.TheVariants.{Change}
use Rattle.mcs_shell.specs.declared.texts.TextRefusal.{TextRefusal}
use Rattle.mcs_lines.specs.declared.requests.TextKind.{TextKind}
use Rattle.mcs_shell.specs.declared.texts.TextFault.{TextFault}
use Rattle.mcs_shell.specs.declared.ends.ShellEnd.{ShellEnd}
use Rattle.mcs_shell.specs.Inputs.{Input, Line, Text, text_fault_of, input_of_text, text_or_fault}
use Rattle.mcs_shell.specs.TextMeanings.{Executes, Reports, meaning_of_text, text_refusal_answer}
use Rattle.mcs_session.specs.CommandCalls.{AppliesCommand, ClosesAtDeviceFault, RecordsOrFails}
use Rattle.mcs_session.specs.SessionState.{Premise, SessionState}
use Rattle.mcs_shell.specs.ShellState.{ShellState}
use Rattle.mcs_shell.specs.RefusalNumbers.{session_fault_number}
use Rattle.mcs_answers.specs.AnswerTexts.{no_text, ok_text}
use Rattle.mcs_shell.specs.Transcript.{IsPossibleOutcome, accepted_commands, answer, requested_command, change_answer, acknowledged_commands, end_caused_by, is_device_fault, answer_from_state, reached_commands, needs_allocation}
use Rattle.mcs_shell.specs.Serving.{LeavesSession, ServesInputs, ServesExchanges, WroteBytes}
use Rattle.mcs_shell.specs.ServedPieces.{AnsweredInput, IsIntact, outcome_of}
use Rattle.mcs_session.proofs.Keeping.{keeps_acknowledged_command, keeps_state_at_failed_command, keeps_empty_run_without_new_calls}
use Rattle.mcs_shell.proofs.RecordedCommands.{records_no_commands}
use Rattle.mcs_shell.proofs.ExchangeLists.{or_false_right, option_or-none}

-- the session state with these parts; the Bool is true if the session is open
abbrev pub session_state_from : Bool → BenchState → DiskState → SessionState
session_state_from live s d = record { disk = d; live = live; state = s }

-- the clauses of the contract of `Session::apply` about the session and its disk, as one record
pub record AppliesAndRecords (live : Bool) (s : BenchState) (d : DiskState) (c : Command) (result : Result Reply SessionFault) (b : SessionState) : Type 0 where
  pub applied : AppliesCommand live s c result b.state
  pub closes : ClosesAtDeviceFault live d.faults result b.live b.disk.faults
  pub start : b.disk.start ≡ d.start
  pub honest : b.disk.honest ↔ d.honest
  pub untouched : IfErr result (λ f. f ≢ fault.Device → b.disk.calls ≡ d.calls)
  pub records : d.honest → RecordsOrFails result d b.disk s c

counts_no_fault : (old new : DiskState) → new.start ≡ old.start → new.honest ↔ old.honest → new.faults ≡ old.faults → CountsFault old new ⊥
counts_no_fault old new start honest same = record { start = start; honest = honest; fault = λ none. absurd none; no_fault = λ none. same }

-- If an error other than `Device` left the disk unchanged, the disk received no calls.
pub calls_unchanged_if_disk_unchanged : {D : Type 0} (state_of : D → DiskState) (new old : D) (r : Result Reply SessionFault) → IfErr r (λ f. f ≢ fault.Device → new ≡ old) → IfErr r (λ f. f ≢ fault.Device → (state_of new).calls ≡ (state_of old).calls)
calls_unchanged_if_disk_unchanged state_of new old (Ok x) h = tt
calls_unchanged_if_disk_unchanged state_of new old (Err f) h = λ other. ap (λ disk. (state_of disk).calls) (h other)

-- The contract of `apply` holds for a result equal to the one that `apply` returned.
pub applies_with_equal_result : (q r : Result Reply SessionFault) (live : Bool) (s : BenchState) (d : DiskState) (b : SessionState) (c : Command) → q ≡ r → AppliesAndRecords live s d c q b → AppliesAndRecords live s d c r b
applies_with_equal_result q r live s d b c same h = subst (λ x. AppliesAndRecords live s d c x b) same h

accepted_commands_if_accepted : (s : BenchState) (c : Command) → refusal s c ≡ None → accepted_commands s (Some c) ≡ c ∷ []
accepted_commands_if_accepted s c e = ap (λ (v : Option BenchFault). elim v [ None ↦ c ∷ [] | Some f ↦ [] ]) e

no_accepted_commands_if_refused : (s : BenchState) (c : Command) (f : BenchFault) → refusal s c ≡ Some f → accepted_commands s (Some c) ≡ []
no_accepted_commands_if_refused s c f e = ap (λ (v : Option BenchFault). elim v [ None ↦ c ∷ [] | Some g ↦ [] ]) e

answer_if_accepted : (s : BenchState) (c : Command) → refusal s c ≡ None → change_answer s c ≡ ok_text (reply s c) (after s c)
answer_if_accepted s c e = ap (λ (v : Option BenchFault). elim v [ None ↦ ok_text (reply s c) (after s c) | Some f ↦ no_text (bench_fault_number f) ]) e

answer_if_refused : (s : BenchState) (c : Command) (f : BenchFault) → refusal s c ≡ Some f → change_answer s c ≡ no_text (bench_fault_number f)
answer_if_refused s c f e = ap (λ (v : Option BenchFault). elim v [ None ↦ ok_text (reply s c) (after s c) | Some g ↦ no_text (bench_fault_number g) ]) e

-- ---- a command

pub ok_command_answered : (r : Reply) (live : Bool) (s : BenchState) (d : DiskState) (b : SessionState) (c : Command) (response : List ℕ) → AppliesAndRecords live s d c (Ok r) b → response ≡ ok_text r b.state → AnsweredInput (session_state_from live s d) (Line (Change c)) Answered response b
unfolding answer acknowledged_commands reached_commands IsPossibleOutcome
ok_command_answered r false s d b c response h k = absurd (h.applied)
ok_command_answered r true s d b c response h k =
    let not_refused : refusal s c ≡ None = h.applied.0 in
    let P : List Command → Type 0 = λ cs. LeavesSession IsIntact false (session_state_from true s d) b cs cs in
    record {
      is_possible = inr refl;
      answer_is = k ∙ ap (λ v. ok_text v b.state) (h.applied.1) ∙ ap (ok_text (reply s c)) (h.applied.2) ∙ sym (answer_if_accepted s c not_refused);
      leaves = subst P (sym (accepted_commands_if_accepted s c not_refused)) (record {
        live = h.closes.0;
        accepted = (not_refused, tt);
        state = h.applied.2;
        counts = counts_no_fault d b.disk h.start h.honest h.closes.1;
        untouched = λ none. absurd (cc none);
        kept = λ given. keeps_acknowledged_command d b.disk s c (h.records given.honest.1);
      });
    }

refused_command_answered : (f : BenchFault) (live : Bool) (s : BenchState) (d : DiskState) (b : SessionState) (c : Command) (response : List ℕ) → AppliesAndRecords live s d c (Err (fault.Refused f)) b → response ≡ no_text (session_fault_number (fault.Refused f)) → AnsweredInput (session_state_from live s d) (Line (Change c)) Answered response b
unfolding answer acknowledged_commands reached_commands IsPossibleOutcome
refused_command_answered f false s d b c response h k = absurd (h.applied)
refused_command_answered f true s d b c response h k =
    let refused : refusal s c ≡ Some f = h.applied.0 in
    let P : List Command → Type 0 = λ cs. LeavesSession IsIntact false (session_state_from true s d) b cs cs in
    record {
      is_possible = inr refl;
      answer_is = k ∙ sym (answer_if_refused s c f refused);
      leaves = subst P (sym (no_accepted_commands_if_refused s c f refused)) (record {
        live = h.closes.0;
        accepted = tt;
        state = h.applied.1;
        counts = counts_no_fault d b.disk h.start h.honest h.closes.1;
        untouched = λ none. h.untouched (λ e. absurd (cc e));
        kept = λ given. keeps_empty_run_without_new_calls d b.disk s h.start (h.records given.honest.1) given.represents;
      });
    }

command_answered_at_device_fault : (live : Bool) (s : BenchState) (d : DiskState) (b : SessionState) (c : Command) (response : List ℕ) → AppliesAndRecords live s d c (Err fault.Device) b → response ≡ no_text DEVICE → AnsweredInput (session_state_from live s d) (Line (Change c)) Device response b
unfolding answer acknowledged_commands reached_commands IsPossibleOutcome
command_answered_at_device_fault false s d b c response h k = absurd (h.applied)
command_answered_at_device_fault true s d b c response h k =
    let only_command : accepted_commands s (Some c) ≡ c ∷ [] = accepted_commands_if_accepted s c (h.applied.0) in
    let P : List Command → Type 0 = λ cs. LeavesSession IsIntact true (session_state_from true s d) b [] cs in
    record {
      is_possible = (λ none. let x : c ∷ [] ≡ [] = sym only_command ∙ none in absurd (cc x), refl);
      answer_is = k;
      leaves = subst P (sym only_command) (record {
        closed = h.closes.0;
        failed = c;
        reached_are = refl;
        accepted = (h.applied.0, tt);
        state = h.applied.1;
        counts = record { start = h.start; honest = h.honest; fault = λ it. h.closes.1; no_fault = λ none. absurd (none tt) };
        kept = λ given. keeps_state_at_failed_command d b.disk s c given.represents (h.records given.honest.1);
      });
    }

command_answered_if_closed : (live : Bool) (s : BenchState) (d : DiskState) (b : SessionState) (c : Command) (response : List ℕ) → AppliesAndRecords live s d c (Err fault.Closed) b → response ≡ no_text CLOSED → AnsweredInput (session_state_from live s d) (Line (Change c)) Closed response b
unfolding answer acknowledged_commands reached_commands IsPossibleOutcome
command_answered_if_closed true s d b c response h k = absurd (h.applied)
command_answered_if_closed false s d b c response h k = record {
  is_possible = (λ x. absurd (cc x), refl);
  answer_is = k;
  leaves = record { live = h.closes.0; accepted = tt; state = h.applied; counts = counts_no_fault d b.disk h.start h.honest h.closes.1; untouched = λ none. h.untouched (λ e. absurd (cc e)); kept = λ given. absurd (cc given.honest.0) };
}

-- A command that was not recorded is answered with the refusal number of the error `f`.
pub failed_command_answered : (f : SessionFault) (live : Bool) (s : BenchState) (d : DiskState) (b : SessionState) (c : Command) (response : List ℕ) → AppliesAndRecords live s d c (Err f) b → response ≡ no_text (session_fault_number f) → AnsweredInput (session_state_from live s d) (Line (Change c)) (outcome_of f) response b
failed_command_answered (fault.Refused f) = refused_command_answered f
failed_command_answered fault.Device = command_answered_at_device_fault
failed_command_answered fault.Closed = command_answered_if_closed

-- ---- inputs that change nothing

-- An input that requests no command is answered from the state, and the session does not change.
pub answered_from_state : (a : SessionState) (i : Input) (response : List ℕ) → requested_command i ≡ None → response ≡ answer_from_state a.state i → AnsweredInput a i Answered response a
unfolding answer acknowledged_commands reached_commands IsPossibleOutcome
answered_from_state a i response none k = record { is_possible = inl none; answer_is = k; leaves = rw none (records_no_commands a) }

-- An input for which an allocation failed is answered with refusal 90 (no memory), and the session
-- does not change.
pub answered_no_memory : (a : SessionState) (i : Input) (response : List ℕ) → needs_allocation i ≡ true → response ≡ no_text NO_MEMORY → AnsweredInput a i NoMemory response a
unfolding answer acknowledged_commands reached_commands IsPossibleOutcome
answered_no_memory a i response takes k = record { is_possible = takes; answer_is = k; leaves = records_no_commands a }

pub answered_equal_input : (a b : SessionState) (i j : Input) (o : Outcome) (response : List ℕ) → i ≡ j → AnsweredInput a j o response b → AnsweredInput a i o response b
answered_equal_input a b i j o response same h = let P : Input → Type 0 = λ x. AnsweredInput a x o response b in subst P (sym same) h

-- A request whose answer needs memory is answered from the state, or with refusal 90 (no memory) if
-- an allocation failed.
pub answered_with_allocation : {T E : Type 0} (r : Result T E) (a : SessionState) (i : Input) (o : Outcome) (text response : List ℕ) → requested_command i ≡ None → needs_allocation i ≡ true
    → OnOk r (text ≡ answer_from_state a.state i) → OnOk r ((o ≡ Answered) × (response ≡ text)) → OnErr r ((o ≡ NoMemory) × (response ≡ no_text NO_MEMORY)) → AnsweredInput a i o response a
answered_with_allocation (Ok x) a i o text response none takes is k refused = rw k.0 (answered_from_state a i response none (k.1 ∙ is))
answered_with_allocation (Err x) a i o text response none takes is k refused = rw refused.0 (answered_no_memory a i response takes (refused.1))

-- ---- a text

pub input_of_text_by_fault : (kind : TextKind) (text : List ℕ) (f : Option TextFault) → text_fault_of text ≡ f → input_of_text kind text ≡ text_or_fault kind text f
input_of_text_by_fault kind text f e = ap (text_or_fault kind text) e

-- A text whose meaning is a command is answered like the command itself.
pub answered_text_with_command : (a b : SessionState) (kind : TextKind) (text : List ℕ) (c : Command) (o : Outcome) (response : List ℕ)
    → meaning_of_text kind text ≡ Ok (Executes c) → AnsweredInput a (Line (Change c)) o response b → AnsweredInput a (Text kind text) o response b
unfolding answer acknowledged_commands reached_commands IsPossibleOutcome
answered_text_with_command a b kind text c Answered response is h = record { is_possible = rw is h.is_possible; answer_is = rw is h.answer_is; leaves = rw is h.leaves }
answered_text_with_command a b kind text c Device response is h = record { is_possible = rw is h.is_possible; answer_is = h.answer_is; leaves = rw is h.leaves }
answered_text_with_command a b kind text c Closed response is h = record { is_possible = rw is h.is_possible; answer_is = h.answer_is; leaves = h.leaves }
answered_text_with_command a b kind text c NoMemory response is h = record { is_possible = refl; answer_is = h.answer_is; leaves = h.leaves }

-- An invalid text is answered with the refusal for its error `why`.
pub answered_refused_text : (a : SessionState) (kind : TextKind) (text : List ℕ) (why : TextRefusal) (response : List ℕ)
    → meaning_of_text kind text ≡ Err why → response ≡ text_refusal_answer why → AnsweredInput a (Text kind text) Answered response a
answered_refused_text a kind text why response is k = answered_from_state a (Text kind text) response (rw is refl) (rw is k)

-- A text whose meaning is lines to return is answered with these lines.
pub answered_report : (a : SessionState) (kind : TextKind) (text lines response : List ℕ)
    → meaning_of_text kind text ≡ Ok (Reports lines) → response ≡ lines → AnsweredInput a (Text kind text) Answered response a
answered_report a kind text lines response is k = answered_from_state a (Text kind text) response (rw is refl) (rw is k)

-- ---- an input that was executed, and the writing of its answer

pub no_end_caused_without_device_fault : (o : Outcome) → o ≢ Device → end_caused_by true o ≡ None
no_end_caused_without_device_fault Device h = absurd (h refl)
no_end_caused_without_device_fault o h = refl

abbrev pub leaves_session_with_equal_lists : (Given : Premise) (f g : Bool) (a b : SessionState) (cs ds rs qs : List Command) → f ≡ g → cs ≡ ds → rs ≡ qs → LeavesSession Given g a b ds qs → LeavesSession Given f a b cs rs
leaves_session_with_equal_lists Given f g a b cs ds rs qs e k l h =
    subst (λ (v : Bool). LeavesSession Given v a b cs rs) (sym e) (subst (λ (v : List Command). LeavesSession Given g a b v rs) (sym k) (subst (λ (v : List Command). LeavesSession Given g a b ds v) (sym l) h))

serves_one_exchange : (a b : ShellState) (i : Input) (o : Outcome) (response : List ℕ) (whole : Bool) → AnsweredInput a.session i o response b.session → WroteBytes whole a.out b.out response
    → ServesExchanges IsIntact a (record { input = i; outcome = o; whole = whole } ∷ []) b
serves_one_exchange a b i o response whole h sent =
    let s = a.session.state in
    let P : List ℕ → Type 0 = λ v. WroteBytes whole a.out b.out v in
    record {
      is_possible = (h.is_possible, λ more. absurd (more refl), tt);
      wrote = (b.out, subst P h.answer_is sent, refl);
      leaves = leaves_session_with_equal_lists IsIntact (is_device_fault o || false) (is_device_fault o) a.session b.session (acknowledged_commands s i o ++ []) (acknowledged_commands s i o) (reached_commands s i o ++ []) (reached_commands s i o)
          (or_false_right (is_device_fault o)) (append-nil (acknowledged_commands s i o)) (append-nil (reached_commands s i o)) h.leaves;
    }

pub serves_one_input : (a b : ShellState) (i : Input) (o : Outcome) (response : List ℕ) (halted : Option ShellEnd) → AnsweredInput a.session i o response b.session
    → ((whole : Bool) × WroteBytes whole a.out b.out response × (halted ≡ end_caused_by whole o)) → ServesInputs IsIntact (i ∷ []) a b halted
serves_one_input a b i o response halted h sent = record {
  exchanges = record { input = i; outcome = o; whole = sent.0 } ∷ [];
  serves = serves_one_exchange a b i o response sent.0 h sent.1;
  halts = option_or-none (end_caused_by sent.0 o) ∙ sym sent.2;
  not_served = [];
  inputs_split = refl;
  all_served = λ none. refl;
}
