-- The loop that reads chunks, and the whole run of a shell.
use Rattle.std.proofs.Common.{◌≡◌, ℕ, ◌+◌, ◌<◌, ◌≤◌, List, [], ◌∷◌, ◌++◌, Bool, true, false, length, Option, None, Some, ◌⊎◌, inl, inr, ap, sym, append_assoc, append-nil, length-append, ◌∙◌, refl, subst, arith, codes}
use Rattle.std.specs.Io.KnownBytes.{Appends, Consumes, Keeps}
use Rattle.std.proofs.lemmas.List.{map-append, nil_from_length}
use Rattle.std.proofs.lemmas.List.Elements.{filter-append}
use Rattle.std.proofs.KnownBytes.{Appends-trans, Appends-nil, Consumes-kept, Consumes-trans, Consumes-nil}
use Rattle.std.specs.Fmt.{decimal}
use Rattle.std.specs.Option.{option_or}
use Rattle.mcs_answers.specs.AnswerTexts.{session_text}
use Rattle.mcs_model.specs.TextLines.{as_line, lines}
use Rattle.mcs_lines.specs.declared.requests.TextKind.{TextKind}
use Rattle.mcs_model.specs.declared.command.Command.{Command}
use Rattle.mcs_model.specs.BenchState.{BenchState}
use Rattle.mcs_model.specs.declared.limits.TheConstants.{INPUT_BYTES}
use Rattle.mcs_session.specs.KeptCommands.{IsOpenOnHonestDisk}
use Rattle.mcs_session.specs.SessionState.{Premise, SessionState}
use Rattle.mcs_shell.specs.declared.ends.ShellEnd.{ShellEnd}
use Rattle.mcs_shell.specs.declared.ends.ShellEnd.TheVariants.{ReadFault, WriteFault, DeviceFault, InputLimit, NoMemory}
use Rattle.mcs_shell.specs.declared.ends.Outcome.{Outcome}
use Rattle.mcs_shell.specs.declared.ends.Outcome.TheVariants.{Device}
use Rattle.mcs_shell.specs.declared.shell.TheConstants.{CHUNK_BYTES}
use Rattle.mcs_shell.specs.declared.texts.TextFault.TheVariants.{NoEnd}
use Rattle.mcs_shell.specs.LineFeeds.{HasNoFeed}
use Rattle.mcs_shell.specs.Inputs.{Input, BadText, inputs}
use Rattle.mcs_shell.specs.UnfinishedInputView.{OutsideText, InText, UnfinishedInputView, no_unfinished_input, inputs_after, inputs_in_mode}
use Rattle.mcs_shell.specs.Serving.{ReceivedProperPrefix, LeavesSession, ServesInputs, WroteBytes}
use Rattle.mcs_shell.specs.ServedPieces.{IsIntact, ServesBytes}
use Rattle.mcs_shell.specs.Shell.{EndsBy, ReadInput, ReadsLittleAhead, RanShellGiven, ReadBytes, inputs_read}
use Rattle.mcs_shell.specs.ShellState.{KnownBytes, ShellState, with_output}
use Rattle.mcs_shell.specs.Transcript.{Exchange, acknowledged_commands, answered_exchanges, end_caused_by_exchanges, end_caused_by, results_in_order, inputs_in, reached_commands}
use Rattle.mcs_shell.proofs.LineFeeds.{inputs_after-cut_off, inputs_after-empty_line, inputs_after-end_as_line_feed, inputs_in_mode-split_at_dots}
use Rattle.mcs_shell.proofs.ExchangeLists.{all_answered_if_no_end_caused, end_caused_by_exchanges-append, has_device_fault, some_is_not_none}
use Rattle.mcs_shell.proofs.Exchanges.{serves_bytes_append, serves_no_bytes, serves_no_inputs, serves_exchanges_append}

-- ---- the inputs that bytes form

abbrev pub serves_equal_inputs : (Given : Premise) (xs ys : List Input) (a b : ShellState) (halted : Option ShellEnd) → xs ≡ ys → ServesInputs Given ys a b halted → ServesInputs Given xs a b halted
serves_equal_inputs Given xs ys a b halted e m = record { exchanges = m.exchanges; serves = m.serves; halts = m.halts; not_served = m.not_served; inputs_split = e ∙ m.inputs_split; all_served = m.all_served }

-- Serving the bytes after the unfinished input `l`, and then the unfinished input `k` that remains,
-- serves all inputs that `l` and the bytes form.
abbrev pub serves_bytes_and_rest : (whole : Bool) (a b c : ShellState) (l k : UnfinishedInputView) (bytes : List ℕ) (halted : Option ShellEnd) → ServesBytes a b l k bytes None → ServesInputs IsIntact (inputs_after k [] whole) b c halted
    → ServesInputs IsIntact (inputs_after l (bytes ++ []) whole) a c halted
serves_bytes_and_rest whole a b c l k bytes halted x y = record {
  exchanges = x.exchanges ++ y.exchanges;
  serves = serves_exchanges_append a b c x.exchanges y.exchanges x.halts x.serves y.serves;
  halts = end_caused_by_exchanges-append x.exchanges y.exchanges x.halts ∙ y.halts;
  not_served = y.not_served;
  inputs_split = x.inputs_split [] whole
      ∙ ap (λ v. inputs_in x.exchanges ++ v) (x.all_served refl [] whole ∙ y.inputs_split)
      ∙ sym (append_assoc (inputs_in x.exchanges) (inputs_in y.exchanges) y.not_served)
      ∙ ap (λ v. v ++ y.not_served) (sym (map-append (λ (z : Exchange). z.input) x.exchanges y.exchanges));
  all_served = y.all_served;
}

abbrev pub serves_halted_bytes : (whole : Bool) (a b : ShellState) (p q : UnfinishedInputView) (bytes : List ℕ) (cause : ShellEnd) → ServesBytes a b p q bytes (Some cause) → ServesInputs IsIntact (inputs_after p (bytes ++ []) whole) a b (Some cause)
serves_halted_bytes whole a b p q bytes cause x = record { exchanges = x.exchanges; serves = x.serves; halts = x.halts; not_served = x.not_served [] whole; inputs_split = x.inputs_split [] whole; all_served = λ none. absurd (some_is_not_none cause none) }

-- ---- the end of input

pub serves_end_outside_text : (a : ShellState) (p : UnfinishedInputView) → length p.line ≡ 0 → p.mode ≡ OutsideText → ServesInputs IsIntact (inputs_after p [] true) a a None
unfolding inputs_in_mode
serves_end_outside_text a p none is = serves_equal_inputs IsIntact (inputs_after p [] true) [] a a None (inputs_after-empty_line p OutsideText none is) (serves_no_inputs a)

pub serves_end_in_text : (a b : ShellState) (p : UnfinishedInputView) (kind : TextKind) (text : List ℕ) (halted : Option ShellEnd) → length p.line ≡ 0 → p.mode ≡ InText kind text → ServesInputs IsIntact (BadText NoEnd ∷ []) a b halted → ServesInputs IsIntact (inputs_after p [] true) a b halted
unfolding inputs_in_mode
serves_end_in_text a b p kind text halted none is m = serves_equal_inputs IsIntact (inputs_after p [] true) (BadText NoEnd ∷ []) a b halted (inputs_after-empty_line p (InText kind text) none is) m

-- The last line is served at the end of input as if a line feed ended the line.
pub serves_end_after_line : (a b c : ShellState) (p q : UnfinishedInputView) (halted : Option ShellEnd) → HasNoFeed p.line → 0 < length p.line → ServesBytes a b p q (10 ∷ []) None → ServesInputs IsIntact (inputs_after q [] true) b c halted → ServesInputs IsIntact (inputs_after p [] true) a c halted
serves_end_after_line a b c p q halted f some x y = serves_equal_inputs IsIntact (inputs_after p [] true) (inputs_after p (10 ∷ []) true) a c halted (inputs_after-end_as_line_feed p f some) (serves_bytes_and_rest true a b c p q (10 ∷ []) halted x y)

pub serves_end_if_line_halts : (a b : ShellState) (p q : UnfinishedInputView) (cause : ShellEnd) → HasNoFeed p.line → 0 < length p.line → ServesBytes a b p q (10 ∷ []) (Some cause) → ServesInputs IsIntact (inputs_after p [] true) a b (Some cause)
serves_end_if_line_halts a b p q cause f some x = serves_equal_inputs IsIntact (inputs_after p [] true) (inputs_after p (10 ∷ []) true) a b (Some cause) (inputs_after-end_as_line_feed p f some) (serves_halted_bytes true a b p q (10 ∷ []) cause x)

-- ---- the loop

-- The invariant of the loop: `total` bytes have been read and served, and `line` is the unfinished
-- input.
pub record LoopProgress (r r' : KnownBytes) (a b : ShellState) (line : UnfinishedInputView) (total : ℕ) : Type 0 where
  pub bytes : List ℕ
  pub count : length bytes ≡ total
  pub consumed : Consumes r r' bytes
  pub fed : ServesBytes a b no_unfinished_input line bytes None

pub loop_progress_at_start : (r : KnownBytes) (a : ShellState) (line : UnfinishedInputView) → line ≡ no_unfinished_input → LoopProgress r r a a line 0
loop_progress_at_start r a line e = let P : UnfinishedInputView → Type 0 = λ l. LoopProgress r r a a l 0 in subst P (sym e) (record { bytes = []; count = refl; consumed = Consumes-nil r; fed = serves_no_bytes a no_unfinished_input tt })

pub loop_progress_after_chunk : (r r' r'' : KnownBytes) (a b c : ShellState) (line new_line : UnfinishedInputView) (chunk : List ℕ) (total n max_count : ℕ)
    → LoopProgress r r' a b line total → ReadBytes n max_count r' r'' chunk → ServesBytes b c line new_line chunk None → LoopProgress r r'' a c new_line (total + n)
loop_progress_after_chunk r r' r'' a b c line new_line chunk total n max_count x y z = record {
  bytes = x.bytes ++ chunk;
  count = length-append x.bytes chunk ∙ let e : length x.bytes + length chunk ≡ total + n = omega (arith, x.count, y.count) in e;
  consumed = Consumes-trans r r' r'' x.bytes chunk x.consumed y.consumed;
  fed = serves_bytes_append a b c no_unfinished_input line new_line x.bytes chunk None x.fed z;
}

inputs_from_start : (bytes : List ℕ) (whole : Bool) → inputs bytes whole ≡ inputs_after no_unfinished_input (bytes ++ []) whole
unfolding inputs
inputs_from_start bytes whole = sym (inputs_in_mode-split_at_dots whole OutsideText (lines bytes whole)) ∙ ap (λ v. inputs_after no_unfinished_input v whole) (sym (append-nil bytes))

inputs_until_cut_are_served : (a b : ShellState) (line : UnfinishedInputView) (bytes : List ℕ) (x : ServesBytes a b no_unfinished_input line bytes None) → inputs bytes false ≡ inputs_in x.exchanges
inputs_until_cut_are_served a b line bytes x = inputs_from_start bytes false ∙ x.inputs_split [] false ∙ ap (λ v. inputs_in x.exchanges ++ v) (x.all_served refl [] false ∙ inputs_after-cut_off line (x.no_feed refl)) ∙ append-nil (inputs_in x.exchanges)

-- The answered inputs begin with the inputs that the bytes before `ahead` form.
reads_little_ahead_in_chunk : (a b : ShellState) (line : UnfinishedInputView) (bytes ahead : List ℕ) (x : ServesBytes a b no_unfinished_input line bytes None) (ys : List Exchange) → length ahead ≤ CHUNK_BYTES → ReadsLittleAhead (bytes ++ ahead) (inputs_in (answered_exchanges (x.exchanges ++ ys)))
reads_little_ahead_in_chunk a b line bytes ahead x ys few = record {
  before = bytes;
  ahead = ahead;
  parts = refl;
  few = few;
  more = inputs_in (answered_exchanges ys);
  answered_are =
      ap inputs_in (filter-append (λ (z : Exchange). z.whole) x.exchanges ys ∙ ap (λ v. v ++ answered_exchanges ys) (all_answered_if_no_end_caused x.exchanges x.halts))
      ∙ map-append (λ (z : Exchange). z.input) x.exchanges (answered_exchanges ys)
      ∙ ap (λ v. v ++ inputs_in (answered_exchanges ys)) (sym (inputs_until_cut_are_served a b line bytes x));
}

reads_nothing_ahead : (a b : ShellState) (line : UnfinishedInputView) (bytes : List ℕ) (x : ServesBytes a b no_unfinished_input line bytes None) (ys : List Exchange) → ReadsLittleAhead bytes (inputs_in (answered_exchanges (x.exchanges ++ ys)))
reads_nothing_ahead a b line bytes x ys = let P : List ℕ → Type 0 = λ v. ReadsLittleAhead v (inputs_in (answered_exchanges (x.exchanges ++ ys))) in subst P (append-nil bytes) (reads_little_ahead_in_chunk a b line bytes [] x ys (omega arith))

-- A run that wrote its first line did not end for lack of memory.
no_lack_of_memory_after_first_line : (end : ShellEnd) (bytes : List ℕ) (whole : Bool) (exchanges : List Exchange) (halted : Option ShellEnd) → EndsBy end true bytes whole exchanges halted → end ≡ NoMemory → ⊥
no_lack_of_memory_after_first_line end bytes whole exchanges halted ends is = let P : ShellEnd → Type 0 = λ e. EndsBy e true bytes whole exchanges halted in let h : EndsBy NoMemory true bytes whole exchanges halted = subst P is ends in absurd (cc h.0)

-- A run of the loop is a run of the shell without a first line.
loop_run_is_shell_run : (end : ShellEnd) (r r' : KnownBytes) (a c : ShellState) (halted : Option ShellEnd) (read : ReadInput r r') (m : ServesInputs IsIntact (inputs_read read) a c halted)
    → ReadsLittleAhead read.bytes (inputs_in (answered_exchanges m.exchanges)) → EndsBy end true read.bytes read.ended m.exchanges halted → RanShellGiven IsIntact [] end r r' a c
loop_run_is_shell_run end r r' a c halted read m reads_little_ahead ends = record {
  read = read;
  start = record { whole = true; started = a.out; wrote = Appends-nil a.out };
  halted = halted;
  served = m;
  reads_little_ahead = reads_little_ahead;
  ends = ends;
  unwritten = λ is. absurd (no_lack_of_memory_after_first_line end read.bytes read.ended m.exchanges halted ends is);
}

false_is_not_true : false ≡ true → ⊥
false_is_not_true e = absurd (cc e)

-- the bytes that were read, as a `ReadInput` of input that has not ended
abbrev input_read_until_cut : (r r' : KnownBytes) (bytes : List ℕ) → Consumes r r' bytes → length bytes ≤ INPUT_BYTES → ReadInput r r'
input_read_until_cut r r' bytes consumed within = record { bytes = bytes; consumed = consumed; within = within; ended = false; input_ended = λ e. absurd (false_is_not_true e) }

-- Serving the bytes from the start of the input, and then the unfinished input `line` that remains,
-- serves all inputs that the bytes form.
abbrev serves_all_inputs : (whole : Bool) (a b c : ShellState) (line : UnfinishedInputView) (bytes : List ℕ) (halted : Option ShellEnd) → ServesBytes a b no_unfinished_input line bytes None → ServesInputs IsIntact (inputs_after line [] whole) b c halted → ServesInputs IsIntact (inputs bytes whole) a c halted
serves_all_inputs whole a b c line bytes halted x y = serves_equal_inputs IsIntact (inputs bytes whole) (inputs_after no_unfinished_input (bytes ++ []) whole) a c halted (inputs_from_start bytes whole) (serves_bytes_and_rest whole a b c no_unfinished_input line bytes halted x y)

abbrev serves_inputs_until_cut : (a b : ShellState) (line : UnfinishedInputView) (bytes : List ℕ) → ServesBytes a b no_unfinished_input line bytes None → ServesInputs IsIntact (inputs bytes false) a b None
serves_inputs_until_cut a b line bytes x = serves_all_inputs false a b b line bytes None x (serves_equal_inputs IsIntact (inputs_after line [] false) [] b b None (inputs_after-cut_off line (x.no_feed refl)) (serves_no_inputs b))

pub ran_shell_until_read_fault : (r r' r'' : KnownBytes) (a b : ShellState) (line : UnfinishedInputView) (total : ℕ) → LoopProgress r r' a b line total → total < INPUT_BYTES → Keeps r' r'' → RanShellGiven IsIntact [] ReadFault r r'' a b
ran_shell_until_read_fault r r' r'' a b line total x small keeps =
    let below_limit : length x.bytes < INPUT_BYTES = omega (arith, x.count, small) in
    loop_run_is_shell_run ReadFault r r'' a b None (input_read_until_cut r r'' x.bytes (Consumes-kept r r' r'' x.bytes x.consumed keeps) (omega (arith, below_limit))) (serves_inputs_until_cut a b line x.bytes x.fed) (reads_nothing_ahead a b line x.bytes x.fed []) (refl, refl, refl, below_limit)

pub ran_shell_until_input_limit : (r r' : KnownBytes) (a b : ShellState) (line : UnfinishedInputView) (total : ℕ) → LoopProgress r r' a b line total → total ≡ INPUT_BYTES → RanShellGiven IsIntact [] InputLimit r r' a b
ran_shell_until_input_limit r r' a b line total x e =
    let read_limit : length x.bytes ≡ INPUT_BYTES = x.count ∙ e in
    loop_run_is_shell_run InputLimit r r' a b None (input_read_until_cut r r' x.bytes x.consumed (omega (arith, read_limit))) (serves_inputs_until_cut a b line x.bytes x.fed) (reads_nothing_ahead a b line x.bytes x.fed []) (refl, refl, refl, read_limit)

-- ---- the end of input, or a halt of the shell

consumed_after_empty_read : (r r' r'' : KnownBytes) (max_count : ℕ) (bytes chunk : List ℕ) → Consumes r r' bytes → ReadBytes 0 max_count r' r'' chunk → Consumes r r'' bytes
consumed_after_empty_read r r' r'' max_count bytes chunk a b = let P : List ℕ → Type 0 = λ y. Consumes r r'' y in
    subst P (ap (λ y. bytes ++ y) (nil_from_length chunk b.count) ∙ append-nil bytes) (Consumes-trans r r' r'' bytes chunk a b.consumed)

pub ran_shell_until_end_of_input : (end : ShellEnd) (r r' r'' : KnownBytes) (a b c : ShellState) (line : UnfinishedInputView) (chunk : List ℕ) (total max_count : ℕ) (halted : Option ShellEnd) (x : LoopProgress r r' a b line total) → total < INPUT_BYTES → ReadBytes 0 max_count r' r'' chunk
    → (m : ServesInputs IsIntact (inputs_after line [] true) b c halted) → EndsBy end true x.bytes true (x.fed.exchanges ++ m.exchanges) halted → RanShellGiven IsIntact [] end r r'' a c
ran_shell_until_end_of_input end r r' r'' a b c line chunk total max_count halted x small y m ends =
    let below : length x.bytes < INPUT_BYTES = omega (arith, x.count, small) in
    loop_run_is_shell_run end r r'' a c halted (record { bytes = x.bytes; consumed = consumed_after_empty_read r r' r'' max_count x.bytes chunk x.consumed y; within = omega (arith, below); ended = true; input_ended = λ e. (below, y.at_end refl) })
    (serves_all_inputs true a b c line x.bytes halted x.fed m) (reads_nothing_ahead a b line x.bytes x.fed m.exchanges) ends

ends_by_exchange : (whole_answer : Bool) (o : Outcome) (end : ShellEnd) (bytes : List ℕ) (whole : Bool) (exchanges : List Exchange) → end_caused_by whole_answer o ≡ Some end → EndsBy end true bytes whole exchanges (Some end)
ends_by_exchange false o end bytes whole exchanges e = let end_is : WriteFault ≡ end = cc e in subst (λ (v : ShellEnd). EndsBy v true bytes whole exchanges (Some v)) end_is (inl (refl, refl))
ends_by_exchange true Device end bytes whole exchanges e = let end_is : DeviceFault ≡ end = cc e in subst (λ (v : ShellEnd). EndsBy v true bytes whole exchanges (Some v)) end_is (refl, refl)
ends_by_exchange true o end bytes whole exchanges e = absurd (cc e)

pub either_is_some_if_option_or_is_some : (h k : Option ShellEnd) (end : ShellEnd) → option_or h k ≡ Some end → (h ≡ Some end) ⊎ (k ≡ Some end)
either_is_some_if_option_or_is_some None k end e = inr e
either_is_some_if_option_or_is_some (Some x) k end e = inl e

-- Exchanges halt the shell only if a write or the device failed.
ends_by_exchanges : (xs : List Exchange) (end : ShellEnd) (bytes : List ℕ) (whole : Bool) (exchanges : List Exchange) → end_caused_by_exchanges xs ≡ Some end → EndsBy end true bytes whole exchanges (Some end)
ends_by_exchanges [] end bytes whole exchanges e = absurd (cc e)
ends_by_exchanges (x ∷ xs) end bytes whole exchanges e = elim (either_is_some_if_option_or_is_some (end_caused_by x.whole x.outcome) (end_caused_by_exchanges xs) end e) [
  | inl h ↦ ends_by_exchange x.whole x.outcome end bytes whole exchanges h
  | inr h ↦ ends_by_exchanges xs end bytes whole exchanges h
]

pub ran_shell_halted_at_end_of_input : (end : ShellEnd) (r r' r'' : KnownBytes) (a b c : ShellState) (line : UnfinishedInputView) (chunk : List ℕ) (total max_count : ℕ) → LoopProgress r r' a b line total → total < INPUT_BYTES → ReadBytes 0 max_count r' r'' chunk
    → ServesInputs IsIntact (inputs_after line [] true) b c (Some end) → RanShellGiven IsIntact [] end r r'' a c
ran_shell_halted_at_end_of_input end r r' r'' a b c line chunk total max_count x small y m = ran_shell_until_end_of_input end r r' r'' a b c line chunk total max_count (Some end) x small y m (ends_by_exchanges m.exchanges end x.bytes true (x.fed.exchanges ++ m.exchanges) m.halts)

-- Serving all bytes before a chunk, and halting within the chunk, is a run of the loop.
pub ran_shell_halted_in_chunk : (end : ShellEnd) (r r' r'' : KnownBytes) (a b c : ShellState) (line new_line : UnfinishedInputView) (chunk : List ℕ) (total n max_count : ℕ)
    → LoopProgress r r' a b line total → total + max_count ≤ INPUT_BYTES → max_count ≤ CHUNK_BYTES → ReadBytes n max_count r' r'' chunk → ServesBytes b c line new_line chunk (Some end) → RanShellGiven IsIntact [] end r r'' a c
ran_shell_halted_in_chunk end r r' r'' a b c line new_line chunk total n max_count x small little y z =
    let bytes = x.bytes ++ chunk in
    let serves_both = serves_bytes_append a b c no_unfinished_input line new_line x.bytes chunk (Some end) x.fed z in
    let within : length bytes ≤ INPUT_BYTES = rw (length-append x.bytes chunk) (omega (arith, x.count, y.count, y.within, small)) in
    loop_run_is_shell_run end r r'' a c (Some end) (input_read_until_cut r r'' bytes (Consumes-trans r r' r'' x.bytes chunk x.consumed y.consumed) within)
    (serves_equal_inputs IsIntact (inputs bytes false) (inputs_after no_unfinished_input (bytes ++ []) false) a c (Some end) (inputs_from_start bytes false) (serves_halted_bytes false a c no_unfinished_input new_line bytes end serves_both))
    (reads_little_ahead_in_chunk a b line x.bytes chunk x.fed z.exchanges (omega (arith, y.count, y.within, little))) (ends_by_exchanges z.exchanges end bytes false (x.fed.exchanges ++ z.exchanges) z.halts)

-- ---- the premise that callers see

pub leaves_session_under_open_premise : (failed : Bool) (a b : SessionState) (cs rs : List Command) → (IsOpenOnHonestDisk a → IsIntact a) → LeavesSession IsIntact failed a b cs rs → LeavesSession IsOpenOnHonestDisk failed a b cs rs
leaves_session_under_open_premise false a b cs rs settle x = record { live = x.live; accepted = x.accepted; state = x.state; counts = x.counts; untouched = x.untouched; kept = λ given. x.kept (settle given) }
leaves_session_under_open_premise true a b cs rs settle x = record { closed = x.closed; failed = x.failed; reached_are = x.reached_are; accepted = x.accepted; state = x.state; counts = x.counts; kept = λ given. x.kept (settle given) }

abbrev serves_inputs_under_open_premise : (given : List Input) (a b : ShellState) (halted : Option ShellEnd) → (IsOpenOnHonestDisk a.session → IsIntact a.session) → ServesInputs IsIntact given a b halted → ServesInputs IsOpenOnHonestDisk given a b halted
serves_inputs_under_open_premise given a b halted settle m =
    let s = a.session.state in
    record {
      exchanges = m.exchanges;
      serves = record { is_possible = m.serves.is_possible; wrote = m.serves.wrote; leaves = leaves_session_under_open_premise (has_device_fault m.exchanges) a.session b.session (results_in_order acknowledged_commands s m.exchanges) (results_in_order reached_commands s m.exchanges) settle m.serves.leaves };
      halts = m.halts;
      not_served = m.not_served;
      inputs_split = m.inputs_split;
      all_served = m.all_served;
    }

-- ---- the whole run

whole_if_no_bytes_to_write : (begun : Bool) (old new : KnownBytes) → WroteBytes begun old new [] → begun ≡ true
whole_if_no_bytes_to_write true old new h = refl
whole_if_no_bytes_to_write false old new h = absurd (omega (arith, h.fewer))

-- Writing the first line completely, and then running the loop, is a run of the shell.
pub ran_shell_after_first_line : (end : ShellEnd) (r r' : KnownBytes) (a b : ShellState) (started : KnownBytes) (first_line : List ℕ) → (IsOpenOnHonestDisk a.session → IsIntact a.session) → Appends a.out started first_line
    → RanShellGiven IsIntact [] end r r' (with_output a started) b → RanShellGiven IsOpenOnHonestDisk first_line end r r' a b
ran_shell_after_first_line end r r' a b started first_line settle wrote x =
    let begun : x.start.whole ≡ true = whole_if_no_bytes_to_write x.start.whole started x.start.started x.start.wrote in
    let wrote_nothing : Appends started x.start.started [] = subst (λ (v : Bool). WroteBytes v started x.start.started []) begun x.start.wrote in
    let ends : EndsBy end true x.read.bytes x.read.ended x.served.exchanges x.halted = subst (λ (v : Bool). EndsBy end v x.read.bytes x.read.ended x.served.exchanges x.halted) begun x.ends in
    let P : List ℕ → Type 0 = λ v. Appends a.out x.start.started v in
    record {
      read = x.read;
      start = record { whole = true; started = x.start.started; wrote = subst P (append-nil first_line) (Appends-trans a.out started x.start.started first_line [] wrote wrote_nothing) };
      halted = x.halted;
      served = serves_inputs_under_open_premise (inputs_read x.read) (with_output a x.start.started) b x.halted settle x.served;
      reads_little_ahead = x.reads_little_ahead;
      ends = ends;
      unwritten = λ is. absurd (no_lack_of_memory_after_first_line end x.read.bytes x.read.ended x.served.exchanges x.halted ends is);
    }

no_inputs_from_no_bytes : inputs [] false ≡ []
no_inputs_from_no_bytes = inputs_from_start [] false ∙ inputs_after-cut_off no_unfinished_input tt

-- Writing only a proper prefix of the first line, and reading and executing nothing, is also a run
-- of the shell.
pub ran_shell_without_first_line : (end : ShellEnd) (r : KnownBytes) (a : ShellState) (out : KnownBytes) (first_line : List ℕ) → (IsOpenOnHonestDisk a.session → IsIntact a.session) → ReceivedProperPrefix a.out out first_line
    → (end ≡ NoMemory → out ≡ a.out) → EndsBy end false [] false [] None → RanShellGiven IsOpenOnHonestDisk first_line end r r a (with_output a out)
ran_shell_without_first_line end r a out first_line settle some unwritten ends = record {
  read = input_read_until_cut r r [] (Consumes-nil r) (omega arith);
  start = record { whole = false; started = out; wrote = some };
  halted = None;
  served = serves_equal_inputs IsOpenOnHonestDisk (inputs [] false) [] (with_output a out) (with_output a out) None no_inputs_from_no_bytes (serves_inputs_under_open_premise [] (with_output a out) (with_output a out) None settle (serves_no_inputs (with_output a out)));
  reads_little_ahead = record { before = []; ahead = []; parts = refl; few = omega arith; more = []; answered_are = sym (append-nil (inputs [] false) ∙ no_inputs_from_no_bytes) };
  ends = ends;
  unwritten = unwritten;
}

pub session_text_is_not_empty : (s : BenchState) → 0 < length (session_text s)
session_text_is_not_empty s = let e : length (codes "session " ++ (as_line (decimal s.seq))) ≡ 8 + length (as_line (decimal s.seq)) = length-append (codes "session ") (as_line (decimal s.seq)) in omega (arith, e)
