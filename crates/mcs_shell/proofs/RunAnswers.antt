-- The answers of a run to the inputs that it served, in order.
use Rattle.std.proofs.Common.{◌≡◌, ◌≢◌, ℕ, List, [], ◌∷◌, ◌++◌, Bool, true, false, Option, None, Some, take, drop, ap, append_assoc, append-nil, sym, ◌∙◌, refl, subst, inl, inr}
use Rattle.std.specs.Io.KnownBytes.{Appends}
use Rattle.std.specs.Option.{option_or}
use Rattle.std.proofs.KnownBytes.{Appends-nil, Appends-trans}
use Rattle.std.proofs.lemmas.List.{take-append-drop}
use Rattle.mcs_answers.specs.AnswerTexts.{session_text}
use Rattle.mcs_model.specs.BenchState.{BenchState}
use Rattle.mcs_model.specs.Fold.{fold}
use Rattle.mcs_shell.specs.declared.ends.ShellEnd.{ShellEnd}
use Rattle.mcs_shell.specs.declared.ends.ShellEnd.TheVariants.{End, ReadFault, WriteFault, DeviceFault, InputLimit, NoMemory}
use Rattle.mcs_shell.specs.declared.ends.Outcome.{Outcome}
use Rattle.mcs_shell.specs.Headline.{AnswersInOrder}
use Rattle.mcs_shell.specs.Serving.{WroteBytes, WroteAnswers}
use Rattle.mcs_shell.specs.Shell.{RanShell}
use Rattle.mcs_shell.specs.ShellState.{KnownBytes, ShellState}
use Rattle.mcs_shell.specs.Transcript.{ArePossibleExchanges, Exchange, answer, acknowledged_commands, end_caused_by_exchanges, end_caused_by, results_in_order}

-- Holds if a prefix of these bytes was written. All the bytes were written unless a failed write
-- halted the shell.
record AnswersWritten (old new : KnownBytes) (bytes : List ℕ) (halted : Option ShellEnd) : Type 0 where
  pub response : List ℕ
  pub left_out : List ℕ
  pub written : Appends old new response
  pub parts : response ++ left_out ≡ bytes
  pub all_sent : halted ≢ Some WriteFault → left_out ≡ []

write_fault_from_later_exchange : (whole : Bool) (o : Outcome) (rest : List Exchange) → (rest ≢ [] → end_caused_by whole o ≡ None) → end_caused_by_exchanges rest ≡ Some WriteFault → option_or (end_caused_by whole o) (end_caused_by_exchanges rest) ≡ Some WriteFault
write_fault_from_later_exchange whole o [] goes cut = absurd (cc cut)
write_fault_from_later_exchange whole o (x ∷ rest) goes cut = ap (λ (h : Option ShellEnd). option_or h (end_caused_by_exchanges (x ∷ rest))) (goes (λ e. absurd (cc e))) ∙ cut

-- The bytes written are those of the first answer, followed by those of the other answers.
answers_written_with_first : (s : BenchState) (whole : Bool) (o : Outcome) (rest : List Exchange) (old middle new : KnownBytes) (bytes : List ℕ) → WroteBytes whole old middle bytes → (rest ≢ [] → end_caused_by whole o ≡ None) → WroteAnswers s rest middle new
    → AnswersWritten middle new (results_in_order answer s rest) (end_caused_by_exchanges rest) → AnswersWritten old new (bytes ++ results_in_order answer s rest) (option_or (end_caused_by whole o) (end_caused_by_exchanges rest))
answers_written_with_first s true o rest old middle new bytes wrote goes others t = record {
  response = bytes ++ t.response;
  left_out = t.left_out;
  written = Appends-trans old middle new bytes t.response wrote t.written;
  parts = append_assoc bytes t.response t.left_out ∙ ap (λ v. bytes ++ v) t.parts;
  all_sent = λ uncut. t.all_sent (λ cut. uncut (write_fault_from_later_exchange true o rest goes cut));
}
answers_written_with_first s false o [] old middle new bytes wrote goes others t = record {
  response = take wrote.count bytes;
  left_out = drop wrote.count bytes;
  written = subst (λ (v : KnownBytes). Appends old v (take wrote.count bytes)) (sym others) wrote.received;
  parts = take-append-drop wrote.count bytes ∙ sym (append-nil bytes);
  all_sent = λ uncut. absurd (uncut refl);
}
answers_written_with_first s false o (x ∷ rest) old middle new bytes wrote goes others t = absurd (cc (goes (λ e. absurd (cc e))))

all_answers_written : (live : Bool) (s : BenchState) (exchanges : List Exchange) (old new : KnownBytes) → ArePossibleExchanges live s exchanges → WroteAnswers s exchanges old new → AnswersWritten old new (results_in_order answer s exchanges) (end_caused_by_exchanges exchanges)
all_answers_written live s [] old new is_possible wrote = record { response = []; left_out = []; written = subst (λ (v : KnownBytes). Appends old v []) (sym wrote) (Appends-nil old); parts = refl; all_sent = λ uncut. refl }
all_answers_written live s (x ∷ rest) old new is_possible wrote =
    let t = fold s (acknowledged_commands s x.input x.outcome) in
    answers_written_with_first t x.whole x.outcome rest old wrote.0 new (answer s x.input x.outcome) wrote.1 is_possible.1 wrote.2 (all_answers_written live t rest wrote.0 new is_possible.2 wrote.2)

-- ---- a run that wrote its first line completely, and a run that did not

answers_if_first_line_whole : (end : ShellEnd) (r r' : KnownBytes) (a b : ShellState) (ran : RanShell end r r' a b) → ran.start.whole ≡ true → (end ≢ WriteFault → ran.halted ≢ Some WriteFault) → (end ≢ WriteFault → end ≢ DeviceFault → ran.halted ≡ None)
    → AnswersInOrder end ran.read a b ran.served.exchanges
answers_if_first_line_whole end r r' a b ran whole uncut none =
    let s = a.session.state in
    let exchanges = ran.served.exchanges in
    let serves = ran.served.serves in
    let first : Appends a.out ran.start.started (session_text s) = subst (λ (v : Bool). WroteBytes v a.out ran.start.started (session_text s)) whole ran.start.wrote in
    let t : AnswersWritten ran.start.started b.out (results_in_order answer s exchanges) (end_caused_by_exchanges exchanges) = all_answers_written a.session.live s exchanges ran.start.started b.out serves.is_possible serves.wrote in
    record {
      not_served = ran.served.not_served;
      inputs_split = ran.served.inputs_split;
      all_served = λ x y z. ran.served.all_served (none x y);
      is_possible = serves.is_possible;
      response = session_text s ++ t.response;
      left_out = t.left_out;
      written = Appends-trans a.out ran.start.started b.out (session_text s) t.response first t.written;
      parts = append_assoc (session_text s) t.response t.left_out ∙ ap (λ v. session_text s ++ v) t.parts;
      all_sent = λ x z. t.all_sent (λ cut. uncut x (sym ran.served.halts ∙ cut));
    }

answers_if_first_line_cut_off : (end : ShellEnd) (r r' : KnownBytes) (a b : ShellState) (ran : RanShell end r r' a b) → ran.start.whole ≡ false → ran.served.exchanges ≡ [] → (end ≢ WriteFault → end ≢ NoMemory → ⊥) → AnswersInOrder end ran.read a b ran.served.exchanges
answers_if_first_line_cut_off end r r' a b ran cut none by =
    let s = a.session.state in
    let wrote_prefix : WroteBytes false a.out ran.start.started (session_text s) = subst (λ (v : Bool). WroteBytes v a.out ran.start.started (session_text s)) cut ran.start.wrote in
    let nothing_more : b.out ≡ ran.start.started = subst (λ (v : List Exchange). WroteAnswers s v ran.start.started b.out) none ran.served.serves.wrote in
    record {
      not_served = ran.served.not_served;
      inputs_split = ran.served.inputs_split;
      all_served = λ x y z. absurd (by x z);
      is_possible = ran.served.serves.is_possible;
      response = take wrote_prefix.count (session_text s);
      left_out = drop wrote_prefix.count (session_text s);
      written = subst (λ (v : KnownBytes). Appends a.out v (take wrote_prefix.count (session_text s))) (sym nothing_more) wrote_prefix.received;
      parts = take-append-drop wrote_prefix.count (session_text s) ∙ sym (append-nil (session_text s)) ∙ ap (λ (v : List Exchange). session_text s ++ results_in_order answer s v) (sym none);
      all_sent = λ x z. absurd (by x z);
    }

pub answers_of_run : (end : ShellEnd) (r r' : KnownBytes) (a b : ShellState) (ran : RanShell end r r' a b) → AnswersInOrder end ran.read a b ran.served.exchanges
answers_of_run End r r' a b ran = answers_if_first_line_whole End r r' a b ran ran.ends.0 (λ x e. absurd (cc (sym ran.ends.2 ∙ e))) (λ x y. ran.ends.2)
answers_of_run ReadFault r r' a b ran = answers_if_first_line_whole ReadFault r r' a b ran ran.ends.0 (λ x e. absurd (cc (sym ran.ends.2 ∙ e))) (λ x y. ran.ends.2)
answers_of_run InputLimit r r' a b ran = answers_if_first_line_whole InputLimit r r' a b ran ran.ends.0 (λ x e. absurd (cc (sym ran.ends.2 ∙ e))) (λ x y. ran.ends.2)
answers_of_run DeviceFault r r' a b ran = answers_if_first_line_whole DeviceFault r r' a b ran ran.ends.0 (λ x e. absurd (cc (sym ran.ends.1 ∙ e))) (λ x y. absurd (y refl))
answers_of_run NoMemory r r' a b ran = answers_if_first_line_cut_off NoMemory r r' a b ran ran.ends.0 ran.ends.2 (λ x z. z refl)
answers_of_run WriteFault r r' a b ran = elim ran.ends [
  | inl h ↦ answers_if_first_line_whole WriteFault r r' a b ran h.0 (λ x. absurd (x refl)) (λ x y. absurd (x refl))
  | inr h ↦ answers_if_first_line_cut_off WriteFault r r' a b ran h.0 h.2 (λ x z. x refl)
]
