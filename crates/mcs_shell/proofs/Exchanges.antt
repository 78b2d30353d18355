-- Consecutive pieces of input, and the exchanges that serve them.
use Rattle.std.proofs.Common.{◌≡◌, ◌+◌, ℕ, take, List, [], ◌∷◌, ◌++◌, Bool, true, false, Option, None, Some, ap, sym, append_assoc, ◌∙◌, refl, subst}
use Rattle.std.proofs.lemmas.List.{map-append}
use Rattle.std.specs.Str.Lines.{strip_carriage_return}
use Rattle.mcs_disk.proofs.StretchComposition.{counts_fault_of_two_stretches}
use Rattle.mcs_lines.specs.declared.requests.TextKind.{TextKind}
use Rattle.mcs_lines.specs.declared.requests.Request.TheVariants.{Begin}
use Rattle.mcs_lines.specs.LineRequests.{request_of}
use Rattle.mcs_model.specs.declared.command.Command.{Command}
use Rattle.mcs_model.specs.BenchState.{BenchState}
use Rattle.mcs_model.specs.Fold.{fold}
use Rattle.mcs_model.specs.TextLines.{is_line_feed, lines}
use Rattle.mcs_session.specs.KeptCommands.{RecordsCommands}
use Rattle.mcs_session.specs.SessionState.{Premise, SessionState}
use Rattle.mcs_session.proofs.Folds.{fold-append}
use Rattle.mcs_session.proofs.Keeping.{keeps_commands_of_both_runs}
use Rattle.mcs_shell.specs.declared.ends.ShellEnd.{ShellEnd}
use Rattle.mcs_shell.specs.LineFeeds.{HasNoFeed}
use Rattle.mcs_shell.specs.Inputs.{Input, Line, kind_of_begun_text, is_dot_line, input_of_text}
use Rattle.mcs_shell.specs.UnfinishedInputView.{UnfinishedInputView, OutsideText, InText, no_unfinished_input, inputs_after}
use Rattle.mcs_shell.specs.StoredInput.{AppendsLine, AppendsLineToText}
use Rattle.mcs_shell.specs.Serving.{LeavesSession, ServesInputs, ServesExchanges, WroteAnswers}
use Rattle.mcs_shell.specs.ServedPieces.{IsIntact, ServesBytes}
use Rattle.mcs_shell.specs.ShellState.{ShellState}
use Rattle.mcs_shell.specs.Transcript.{ArePossibleExchanges, Exchange, acknowledged_commands, end_caused_by_exchanges, results_in_order, inputs_in, reached_commands}
use Rattle.mcs_shell.proofs.RecordedCommands.{are_accepted_append, records_commands_append, records_no_commands, intact_after_recorded_commands}
use Rattle.mcs_shell.proofs.Cutting.{HasNoSeparator-append, HasNoSeparator-take}
use Rattle.mcs_shell.proofs.AnsweredInputs.{leaves_session_with_equal_lists}
use Rattle.mcs_shell.proofs.LineFeeds.{inputs_after-line_truncated, inputs_after-line_feed, inputs_in_mode-text_begun, inputs_in_mode-command, inputs_in_mode-dot_line, same_inputs-stored_text, inputs_in_mode-text_line}
use Rattle.mcs_shell.proofs.ExchangeLists.{has_device_fault-append, end_caused_by_exchanges-append, has_device_fault, results_in_order-append, is_possible-append, no_device_fault_if_no_end_caused, all_reached_equal_acknowledged, state_after_exchanges, WroteAnswers-append}

-- ---- lists of exchanges, one after the other

leaves_session_append : (failed : Bool) (a b c : SessionState) (cs ds rs : List Command) → RecordsCommands IsIntact a b cs → LeavesSession IsIntact failed b c ds rs → LeavesSession IsIntact failed a c (cs ++ ds) (cs ++ rs)
leaves_session_append false a b c cs ds rs x y = records_commands_append a b c cs ds x y
leaves_session_append true a b c cs ds rs x y = record {
  closed = y.closed;
  failed = y.failed;
  reached_are = ap (λ (l : List Command). cs ++ l) y.reached_are ∙ sym (append_assoc cs ds (y.failed ∷ []));
  accepted = are_accepted_append a.state b.state cs rs x.accepted x.state y.accepted;
  state = y.state ∙ ap (λ (s : BenchState). fold s ds) x.state ∙ sym (fold-append a.state cs ds);
  counts = counts_fault_of_two_stretches a.disk b.disk c.disk ⊥ (Unit {0}) (λ none. none) x.counts y.counts;
  kept = λ given. keeps_commands_of_both_runs a.disk b.disk c.disk a.state b.state cs ds rs (x.kept given) x.state (y.kept (intact_after_recorded_commands a b cs x given));
}

-- If nothing halted the shell, the session recorded all commands that were acknowledged.
pub records_commands_if_not_halted : (Given : Premise) (a b : SessionState) (s : BenchState) (exchanges : List Exchange) → end_caused_by_exchanges exchanges ≡ None → LeavesSession Given (has_device_fault exchanges) a b (results_in_order acknowledged_commands s exchanges) (results_in_order reached_commands s exchanges) → RecordsCommands Given a b (results_in_order acknowledged_commands s exchanges)
records_commands_if_not_halted Given a b s exchanges none h = subst (λ (v : Bool). LeavesSession Given v a b (results_in_order acknowledged_commands s exchanges) (results_in_order reached_commands s exchanges)) (no_device_fault_if_no_end_caused exchanges none) h

-- If no exchange of the first list halted the shell, serving the first list and then the second
-- list serves their concatenation.
pub serves_exchanges_append : (a b c : ShellState) (xs ys : List Exchange) → end_caused_by_exchanges xs ≡ None → ServesExchanges IsIntact a xs b → ServesExchanges IsIntact b ys c → ServesExchanges IsIntact a (xs ++ ys) c
serves_exchanges_append a b c xs ys none x y =
    let s = a.session.state in
    let t = b.session.state in
    let recorded = records_commands_if_not_halted IsIntact a.session b.session s xs none x.leaves in
    let state : t ≡ state_after_exchanges s xs = recorded.state in
    record {
      is_possible = is_possible-append a.session.live s xs ys none x.is_possible (subst (λ (live : Bool). ArePossibleExchanges live (state_after_exchanges s xs) ys) recorded.live (subst (λ (u : BenchState). ArePossibleExchanges b.session.live u ys) state y.is_possible));
      wrote = WroteAnswers-append s xs ys a.out b.out c.out x.wrote (subst (λ (u : BenchState). WroteAnswers u ys b.out c.out) state y.wrote);
      leaves = leaves_session_with_equal_lists IsIntact (has_device_fault (xs ++ ys)) (has_device_fault ys) a.session c.session
          (results_in_order acknowledged_commands s (xs ++ ys)) (results_in_order acknowledged_commands s xs ++ results_in_order acknowledged_commands t ys)
          (results_in_order reached_commands s (xs ++ ys)) (results_in_order acknowledged_commands s xs ++ results_in_order reached_commands t ys)
          (has_device_fault-append xs ys none) (results_in_order-append acknowledged_commands s t xs ys state)
          (results_in_order-append reached_commands s t xs ys state ∙ ap (λ rs. rs ++ results_in_order reached_commands t ys) (all_reached_equal_acknowledged s xs (no_device_fault_if_no_end_caused xs none)))
          (leaves_session_append (has_device_fault ys) a.session b.session c.session (results_in_order acknowledged_commands s xs) (results_in_order acknowledged_commands t ys) (results_in_order reached_commands t ys) recorded y.leaves);
    }

-- ---- the bytes that form the inputs

abbrev pub serves_no_inputs : (a : ShellState) → ServesInputs IsIntact [] a a None
serves_no_inputs a = record { exchanges = []; serves = record { is_possible = tt; wrote = refl; leaves = records_no_commands a.session }; halts = refl; not_served = []; inputs_split = refl; all_served = λ none. refl }

-- If these bytes form the inputs `given`, serving these inputs serves the bytes.
pub serves_bytes_that_form_inputs : (a b : ShellState) (p q k : UnfinishedInputView) (bytes : List ℕ) (given : List Input) (halted : Option ShellEnd) → HasNoFeed k.line → (halted ≡ None → q ≡ k)
    → ((more : List ℕ) (whole : Bool) → inputs_after p (bytes ++ more) whole ≡ given ++ inputs_after k more whole)
    → ServesInputs IsIntact given a b halted → ServesBytes a b p q bytes halted
serves_bytes_that_form_inputs a b p q k bytes given halted f same e m = record {
  exchanges = m.exchanges;
  serves = m.serves;
  halts = m.halts;
  not_served = λ more whole. m.not_served ++ inputs_after k more whole;
  inputs_split = λ more whole. e more whole ∙ ap (λ v. v ++ inputs_after k more whole) m.inputs_split ∙ append_assoc (inputs_in m.exchanges) m.not_served (inputs_after k more whole);
  all_served = λ none more whole. ap (λ v. v ++ inputs_after k more whole) (m.all_served none) ∙ ap (λ (x : UnfinishedInputView). inputs_after x more whole) (sym (same none));
  no_feed = λ none. subst (λ (x : UnfinishedInputView). HasNoFeed x.line) (sym (same none)) f;
}

pub serves_bytes_without_inputs : (a : ShellState) (p q : UnfinishedInputView) (bytes : List ℕ) → HasNoFeed q.line
    → ((more : List ℕ) (whole : Bool) → inputs_after p (bytes ++ more) whole ≡ inputs_after q more whole) → ServesBytes a a p q bytes None
serves_bytes_without_inputs a p q bytes f e = serves_bytes_that_form_inputs a a p q q bytes [] None f (λ none. refl) e (serves_no_inputs a)

pub serves_no_bytes : (a : ShellState) (p : UnfinishedInputView) → HasNoFeed p.line → ServesBytes a a p p [] None
serves_no_bytes a p f = serves_bytes_without_inputs a p p [] f (λ more whole. refl)

-- Serving two consecutive pieces of input serves their concatenation.
abbrev pub serves_bytes_append : (a b c : ShellState) (l k e : UnfinishedInputView) (bytes rest : List ℕ) (halted : Option ShellEnd) → ServesBytes a b l k bytes None → ServesBytes b c k e rest halted → ServesBytes a c l e (bytes ++ rest) halted
serves_bytes_append a b c l k e bytes rest halted x y = record {
  exchanges = x.exchanges ++ y.exchanges;
  serves = serves_exchanges_append a b c x.exchanges y.exchanges x.halts x.serves y.serves;
  halts = end_caused_by_exchanges-append x.exchanges y.exchanges x.halts ∙ y.halts;
  not_served = y.not_served;
  inputs_split = λ more whole.
      ap (λ v. inputs_after l v whole) (append_assoc bytes rest more)
      ∙ x.inputs_split (rest ++ more) whole
      ∙ ap (λ v. inputs_in x.exchanges ++ v) (x.all_served refl (rest ++ more) whole ∙ y.inputs_split more whole)
      ∙ sym (append_assoc (inputs_in x.exchanges) (inputs_in y.exchanges) (y.not_served more whole))
      ∙ ap (λ v. v ++ y.not_served more whole) (sym (map-append (λ (z : Exchange). z.input) x.exchanges y.exchanges));
  all_served = y.all_served;
  no_feed = y.no_feed;
}

-- If the shell halted within `bytes`, more bytes after `bytes` change neither the exchanges nor the
-- shell state at the end.
serves_more_bytes_after_halt : (a b : ShellState) (p q r : UnfinishedInputView) (bytes more_bytes : List ℕ) (end : ShellEnd) → ServesBytes a b p q bytes (Some end) → ServesBytes a b p r (bytes ++ more_bytes) (Some end)
serves_more_bytes_after_halt a b p q r bytes more_bytes end x = record {
  exchanges = x.exchanges;
  serves = x.serves;
  halts = x.halts;
  not_served = λ more whole. x.not_served (more_bytes ++ more) whole;
  inputs_split = λ more whole. ap (λ v. inputs_after p v whole) (append_assoc bytes more_bytes more) ∙ x.inputs_split (more_bytes ++ more) whole;
  all_served = λ none. absurd (cc none);
  no_feed = λ none. absurd (cc none);
}

-- ---- bytes without a line feed, and a single line feed

pub serves_bytes_without_feed : (a : ShellState) (p q : UnfinishedInputView) (bytes : List ℕ) → HasNoFeed p.line → HasNoFeed bytes → q ≡ record { mode = p.mode; line = take 16386 (p.line ++ bytes) } → ServesBytes a a p q bytes None
serves_bytes_without_feed a p q bytes f g e = let P : UnfinishedInputView → Type 0 = λ x. ServesBytes a a p x bytes None in subst P (sym e)
    (serves_bytes_without_inputs a p (record { mode = p.mode; line = take 16386 (p.line ++ bytes) }) bytes (HasNoSeparator-take is_line_feed 16386 (p.line ++ bytes) (HasNoSeparator-append is_line_feed p.line bytes f g)) (λ more whole. inputs_after-line_truncated p bytes more whole f g))

pub serves_feed_after_command : (a b : ShellState) (p q : UnfinishedInputView) (line : List ℕ) (halted : Option ShellEnd) → HasNoFeed p.line → p.mode ≡ OutsideText → line ≡ strip_carriage_return p.line → kind_of_begun_text (request_of line) ≡ None
    → (halted ≡ None → q ≡ no_unfinished_input) → ServesInputs IsIntact (Line (request_of line) ∷ []) a b halted → ServesBytes a b p q (10 ∷ []) halted
serves_feed_after_command a b p q line halted f is e none new h =
    serves_bytes_that_form_inputs a b p q no_unfinished_input (10 ∷ []) (Line (request_of line) ∷ []) halted tt new
    (λ more whole. inputs_after-line_feed p OutsideText line more whole f is e ∙ inputs_in_mode-command whole line (lines more whole) none) h

pub serves_feed_after_text_begins : (a : ShellState) (p q : UnfinishedInputView) (line : List ℕ) (kind : TextKind) → HasNoFeed p.line → p.mode ≡ OutsideText → line ≡ strip_carriage_return p.line → request_of line ≡ Begin kind
    → q ≡ record { mode = InText kind []; line = [] } → ServesBytes a a p q (10 ∷ []) None
serves_feed_after_text_begins a p q line kind f is e some new = serves_bytes_without_inputs a p q (10 ∷ []) (subst (λ (x : UnfinishedInputView). HasNoFeed x.line) (sym new) tt)
    (λ more whole. inputs_after-line_feed p OutsideText line more whole f is e ∙ inputs_in_mode-text_begun whole line (lines more whole) kind some ∙ ap (λ (x : UnfinishedInputView). inputs_after x more whole) (sym new))

pub serves_feed_after_dot_line : (a b : ShellState) (p q : UnfinishedInputView) (line : List ℕ) (kind : TextKind) (text : List ℕ) (halted : Option ShellEnd) → HasNoFeed p.line → p.mode ≡ InText kind text → line ≡ strip_carriage_return p.line
    → is_dot_line line ≡ true → (halted ≡ None → q ≡ no_unfinished_input) → ServesInputs IsIntact (input_of_text kind text ∷ []) a b halted → ServesBytes a b p q (10 ∷ []) halted
serves_feed_after_dot_line a b p q line kind text halted f is e dot new h =
    serves_bytes_that_form_inputs a b p q no_unfinished_input (10 ∷ []) (input_of_text kind text ∷ []) halted tt new
    (λ more whole. inputs_after-line_feed p (InText kind text) line more whole f is e ∙ inputs_in_mode-dot_line whole kind text line (lines more whole) dot) h

pub serves_feed_after_text_line : (a : ShellState) (p q : UnfinishedInputView) (line : List ℕ) (kind : TextKind) (text : List ℕ) → HasNoFeed p.line → p.mode ≡ InText kind text → line ≡ strip_carriage_return p.line → is_dot_line line ≡ false
    → AppendsLineToText p.mode p.line q → ServesBytes a a p q (10 ∷ []) None
serves_feed_after_text_line a p q line kind text f is e dot h =
    let g : AppendsLineToText (InText kind text) p.line q = subst (λ m. AppendsLineToText m p.line q) is h in
    let appends_line : AppendsLine text line g.0 = subst (λ l. AppendsLine text l g.0) (sym e) g.1 in
    serves_bytes_without_inputs a p q (10 ∷ []) (subst (λ (x : UnfinishedInputView). HasNoFeed x.line) (sym g.2) tt)
    (λ more whole. inputs_after-line_feed p (InText kind text) line more whole f is e ∙ inputs_in_mode-text_line whole kind text line (lines more whole) dot
    ∙ same_inputs-stored_text whole kind text line g.0 (lines more whole) appends_line ∙ ap (λ (x : UnfinishedInputView). inputs_after x more whole) (sym g.2))

-- ---- a chunk, line by line

-- Holds if the chunk was served except for `rest`, the bytes at its end.
pub record ServedPart (a b : ShellState) (p q : UnfinishedInputView) (rest chunk : List ℕ) : Type 0 where
  pub done : List ℕ
  pub split : chunk ≡ done ++ rest
  pub fed : ServesBytes a b p q done None

pub served_part_at_start : (a : ShellState) (p : UnfinishedInputView) (chunk : List ℕ) → HasNoFeed p.line → ServedPart a a p p chunk chunk
served_part_at_start a p chunk f = record { done = []; split = refl; fed = serves_no_bytes a p f }

-- Appending bytes without a line feed to the unfinished line serves these bytes.
pub serves_part_and_bytes_without_feed : (a b : ShellState) (p q r : UnfinishedInputView) (front rest chunk : List ℕ) (x : ServedPart a b p q rest chunk) → HasNoFeed front → r ≡ record { mode = q.mode; line = take 16386 (q.line ++ front) } → ServesBytes a b p r (x.done ++ front) None
serves_part_and_bytes_without_feed a b p q r front rest chunk x free kept = serves_bytes_append a b b p q r x.done front None x.fed (serves_bytes_without_feed b q r front (x.fed.no_feed refl) free kept)

chunk_split_at_feed : (a b : ShellState) (p q : UnfinishedInputView) (front back rest chunk : List ℕ) (x : ServedPart a b p q rest chunk) → rest ≡ front ++ 10 ∷ back → chunk ≡ ((x.done ++ front) ++ 10 ∷ []) ++ back
chunk_split_at_feed a b p q front back rest chunk x e = x.split ∙ ap (λ v. x.done ++ v) e ∙ sym (append_assoc x.done front (10 ∷ back)) ∙ sym (append_assoc (x.done ++ front) (10 ∷ []) back)

-- A line feed ends the line. Serving this line serves the chunk up to the line feed.
pub served_part_after_line : (a b c : ShellState) (p q r s : UnfinishedInputView) (front back rest chunk : List ℕ) → ServedPart a b p q rest chunk → HasNoFeed front × (rest ≡ front ++ 10 ∷ back)
    → r ≡ record { mode = q.mode; line = take 16386 (q.line ++ front) } → ServesBytes b c r s (10 ∷ []) None → ServedPart a c p s back chunk
served_part_after_line a b c p q r s front back rest chunk x e kept h = record {
  done = (x.done ++ front) ++ 10 ∷ [];
  split = chunk_split_at_feed a b p q front back rest chunk x e.1;
  fed = serves_bytes_append a b c p r s (x.done ++ front) (10 ∷ []) None (serves_part_and_bytes_without_feed a b p q r front rest chunk x e.0 kept) h;
}

pub no_feed_in_unfinished_line : (a b : ShellState) (p q r : UnfinishedInputView) (front rest chunk : List ℕ) → ServedPart a b p q rest chunk → HasNoFeed front → r ≡ record { mode = q.mode; line = take 16386 (q.line ++ front) } → HasNoFeed r.line
no_feed_in_unfinished_line a b p q r front rest chunk x free kept = (serves_part_and_bytes_without_feed a b p q r front rest chunk x free kept).no_feed refl

pub serves_chunk_if_line_halts : (end : ShellEnd) (a b c : ShellState) (p q r s : UnfinishedInputView) (front back rest chunk : List ℕ) → ServedPart a b p q rest chunk → HasNoFeed front × (rest ≡ front ++ 10 ∷ back)
    → r ≡ record { mode = q.mode; line = take 16386 (q.line ++ front) } → ServesBytes b c r s (10 ∷ []) (Some end) → ServesBytes a c p s chunk (Some end)
serves_chunk_if_line_halts end a b c p q r s front back rest chunk x e kept h =
    let P : List ℕ → Type 0 = λ v. ServesBytes a c p s v (Some end) in
    subst P (sym (chunk_split_at_feed a b p q front back rest chunk x e.1))
    (serves_more_bytes_after_halt a c p s s ((x.done ++ front) ++ 10 ∷ []) back end (serves_bytes_append a b c p r s (x.done ++ front) (10 ∷ []) (Some end) (serves_part_and_bytes_without_feed a b p q r front rest chunk x e.0 kept) h))

-- If the rest of the chunk has no line feed, appending the rest to the unfinished line serves the
-- whole chunk.
pub serves_chunk_if_rest_has_no_feed : (a b : ShellState) (p q r : UnfinishedInputView) (rest chunk : List ℕ) → ServedPart a b p q rest chunk → HasNoFeed rest
    → r ≡ record { mode = q.mode; line = take 16386 (q.line ++ rest) } → ServesBytes a b p r chunk None
serves_chunk_if_rest_has_no_feed a b p q r rest chunk x free kept = let P : List ℕ → Type 0 = λ v. ServesBytes a b p r v None in
    subst P (sym x.split) (serves_part_and_bytes_without_feed a b p q r rest rest chunk x free kept)
