-- Lemmas about the loops of the two passes, line by line.
use Rattle.std.proofs.Common.{◌≡◌, ℕ, ◌+◌, ◌<◌, ◌≤◌, Bool, true, false, cond, leb, ◌&&◌, List, [], ◌∷◌, ◌++◌, length, get_or, map, Bor, Option, Some, None, Result, Ok, Err, is_some, refl, sym, ap, subst, ◌∙◌, append-nil, arith}
use Rattle.std.specs.List.{cons_option}
use Rattle.std.specs.Result.{result_map_both}
use Rattle.std.proofs.lemmas.List.{get_or-map, length-map}
use lib.ListN.{replicate}
use Rattle.mcs_asm.specs.declared.fault.FaultKind.{FaultKind}
use Rattle.mcs_asm.specs.declared.fault.AsmFault.{AsmFault}
use Rattle.mcs_asm.specs.declared.fault.FaultKind.TheVariants.{NoMemory, Refused}
use Rattle.mcs_source.specs.declared.fault.SourceFault.{SourceFault}
use Rattle.mcs_source.specs.declared.fault.SourceFault.TheVariants.{DoubleName, OutOfRange, Overlap, PastEnd, TooManyNames}
use Rattle.mcs_source.specs.Lexical.{tokens}
use Rattle.mcs_source.specs.Lines.{SourceLine, Code, Define, line_of}
use Rattle.mcs_model.specs.Images.{from_address, overlaps}
use Rattle.mcs_model.specs.TextLines.{lines_of}
use Rattle.mcs_source.specs.Assembly.{assembly_of_text, assembly_of, read, ith_line, Names, definition, address_of, names_before, all_names, pairs_before, unless_fault, first_fault, first_pass_line_fault, second_pass_line_fault, first_pass_fault, second_pass_fault, earliest_first_pass_fault, earliest_second_pass_fault, address_after_line, line_bytes, bytes_or_none, defined_name, is_defined_name, has_bad_number, passes_end}
use Rattle.mcs_source.specs.Survey.{Survey, span, spans_before, survey_of, survey_of_text}
use Rattle.mcs_source.specs.declared.survey.Span.{Span}
use Rattle.mcs_source.proofs.Surveys.{length_of_from_address}
use Rattle.mcs_source.proofs.LineByLine.{assembles_if_no_fault, spans_before_next_line, address_of_next_line, names_before_next_line, pairs_before_next_line, HasNoFaultBefore, no_fault_before_next, no_first_fault, first_fault_at, no_fault_before_if_first_fault_is_none}
use Rattle.mcs_asm.specs.ByteCells.{HoldsPairs}
use Rattle.mcs_asm.specs.View.{IsErrorAtLine}
use Rattle.mcs_asm.specs.Passes.{FirstPassState, first_pass_start, first_pass_before, first_pass_after_line, first_pass_with_line, names_with_line, SecondPassState, second_pass_before, second_pass_with_bytes, second_pass_with_line, MatchesNewValue, IsFirstError, IsLineNumber, MatchesStateWithAddedBytes, HasValidNumberAndAddress, span_at, IsSecondPassResult, IsResultOfBothPasses}
use Rattle.mcs_asm.proofs.CellPairs.{empty_cells_hold_no_pairs}

abbrev pub texts : List (Bor (List ℕ)) → List (List ℕ)
texts ls = map (λ l. l.now) ls

-- the parsed lines, with `None` for a line that does not parse
abbrev pub parsed_lines : List (Bor (List ℕ)) → List (Option SourceLine)
parsed_lines ls = read (texts ls)

pub parsed_line_at : (ls : List (Bor (List ℕ))) (i : ℕ) (d : Bor (List ℕ)) → i < length ls → ith_line (parsed_lines ls) i ≡ line_of (tokens (get_or ls i d).now)
parsed_line_at ls i d lt =
    let within : i < length (texts ls) = omega (arith, length-map ls (λ (l : Bor (List ℕ)). l.now), lt) in
    get_or-map (λ (l : List ℕ). line_of (tokens l)) (texts ls) i d.now None within ∙ ap (λ (l : List ℕ). line_of (tokens l)) (get_or-map (λ (l : Bor (List ℕ)). l.now) ls i d d.now lt)

pub parsed_lines_length : (ls : List (Bor (List ℕ))) → length (parsed_lines ls) ≡ length ls
parsed_lines_length ls = length-map (texts ls) (λ (l : List ℕ). line_of (tokens l)) ∙ length-map ls (λ (l : Bor (List ℕ)). l.now)

-- ---- the first pass

-- Holds if `b` is the state of the first pass before line `i`, and no earlier line has a first-pass
-- error.
pub record IsFirstPassBefore (ls : List (Bor (List ℕ))) (i : ℕ) (b : FirstPassState) : Type 0 where
  pub within : i ≤ length ls
  pub start : b ≡ first_pass_before (parsed_lines ls) i
  pub none : HasNoFaultBefore (first_pass_fault (parsed_lines ls)) i

pub first_pass_invariant_at_start : (ls : List (Bor (List ℕ))) → IsFirstPassBefore ls 0 first_pass_start
unfolding address_of names_before
first_pass_invariant_at_start ls = record { within = omega arith; start = refl; none = λ j lt. absurd (omega (arith, lt)) }

names_with_line_appends_definition : (line : Option SourceLine) (at : ℕ) (names : Names) → names_with_line line at names ≡ names ++ cons_option (definition line at) []
names_with_line_appends_definition None at names = sym (append-nil names)
names_with_line_appends_definition (Some (Define w n)) at names = refl
names_with_line_appends_definition (Some (Code None s)) at names = sym (append-nil names)
names_with_line_appends_definition (Some (Code (Some w) s)) at names = refl

pub first_pass_before_next_line : (lines : List (Option SourceLine)) (i : ℕ) → first_pass_after_line (first_pass_before lines i) (ith_line lines i) ≡ first_pass_before lines (i + 1)
first_pass_before_next_line lines i =
    let names : names_with_line (ith_line lines i) (address_of lines i) (names_before lines i) ≡ names_before lines (i + 1) = names_with_line_appends_definition (ith_line lines i) (address_of lines i) (names_before lines i) ∙ sym (names_before_next_line lines i) in
    ap (λ (n : Names). record { at = address_after_line (ith_line lines i) (address_of lines i); names = n }) names ∙ ap (λ (a : ℕ). record { at = a; names = names_before lines (i + 1) }) (sym (address_of_next_line lines i))

pub no_fault_if_line_accepted : {A : Type 0} (fault : Option SourceFault) (next new : A) → unless_fault fault (Ok next) ≡ Ok new → (fault ≡ None) × (new ≡ next)
no_fault_if_line_accepted {A} None next new e = (refl, cc)
no_fault_if_line_accepted {A} (Some f) next new e = absurd (cc)

pub fault_if_line_rejected : {A : Type 0} (fault : Option SourceFault) (next : A) (f : SourceFault) → unless_fault fault (Ok next) ≡ Err f → fault ≡ Some f
fault_if_line_rejected {A} None next f e = absurd (cc)
fault_if_line_rejected {A} (Some g) next f e = cc

-- The result of adding line `i` to the first pass is `first_pass_with_line` of `first_pass_before`
-- and `ith_line`.
first_pass_step_of_ith_line : (b : FirstPassState) (ls : List (Bor (List ℕ))) (i : ℕ) (d : Bor (List ℕ)) (wanted : Result FirstPassState SourceFault) → i < length ls → b ≡ first_pass_before (parsed_lines ls) i → first_pass_with_line b (line_of (tokens (get_or ls i d).now)) ≡ wanted
    → first_pass_with_line (first_pass_before (parsed_lines ls) i) (ith_line (parsed_lines ls) i) ≡ wanted
first_pass_step_of_ith_line b ls i d wanted lt here step =
    ap (λ (c : FirstPassState). first_pass_with_line c (ith_line (parsed_lines ls) i)) (sym here) ∙ (ap (λ (l : Option SourceLine). first_pass_with_line b l) (parsed_line_at ls i d lt) ∙ step)

pub first_pass_invariant_at_next_line : (b new : FirstPassState) (ls : List (Bor (List ℕ))) (i : ℕ) (d : Bor (List ℕ)) → i < length ls → first_pass_with_line b (line_of (tokens (get_or ls i d).now)) ≡ Ok new → IsFirstPassBefore ls i b → IsFirstPassBefore ls (i + 1) new
unfolding first_pass_fault
first_pass_invariant_at_next_line b new ls i d lt step h =
    let p = no_fault_if_line_accepted (first_pass_fault (parsed_lines ls) i) (first_pass_after_line (first_pass_before (parsed_lines ls) i) (ith_line (parsed_lines ls) i)) new (first_pass_step_of_ith_line b ls i d (Ok new) lt h.start step) in
    record { within = omega (arith, lt); start = p.1 ∙ first_pass_before_next_line (parsed_lines ls) i; none = no_fault_before_next (first_pass_fault (parsed_lines ls)) i h.none p.0 }

first_error_is_fault_of_line : (fault : ℕ → Option SourceFault) (ls : List (Bor (List ℕ))) (i line : ℕ) (f : SourceFault) → i < length ls → HasNoFaultBefore fault i → fault i ≡ Some f → line ≡ i + 1 → IsFirstError (Refused f) line (first_fault fault (length (parsed_lines ls)))
first_error_is_fault_of_line fault ls i line f lt none here is =
    first_fault_at fault (length (parsed_lines ls)) i f (omega (arith, parsed_lines_length ls, lt)) none here ∙ ap (λ (n : ℕ). Some (n, f)) (sym is)

pub earliest_error_if_first_pass_fails : (kind : FaultKind) (line : ℕ) (b new : FirstPassState) (ls : List (Bor (List ℕ))) (i : ℕ) (d : Bor (List ℕ)) → i < length ls → MatchesNewValue {B = Unit {0}} (Err kind) new (first_pass_with_line b (line_of (tokens (get_or ls i d).now)))
    → IsLineNumber kind i line → IsFirstPassBefore ls i b → IsFirstError kind line (earliest_first_pass_fault (parsed_lines ls))
unfolding first_pass_fault
earliest_error_if_first_pass_fails NoMemory line b new ls i d lt step is h = is
earliest_error_if_first_pass_fails (Refused f) line b new ls i d lt step is h =
    first_error_is_fault_of_line (first_pass_fault (parsed_lines ls)) ls i line f lt h.none (fault_if_line_rejected (first_pass_fault (parsed_lines ls) i) (first_pass_after_line (first_pass_before (parsed_lines ls) i) (ith_line (parsed_lines ls) i)) f (first_pass_step_of_ith_line b ls i d (Err f) lt h.start step)) is

pub first_pass_state_after_last_line : (b : FirstPassState) (ls : List (Bor (List ℕ))) (i : ℕ) → length ls ≤ i → IsFirstPassBefore ls i b → (earliest_first_pass_fault (parsed_lines ls) ≡ None) × (b ≡ first_pass_before (parsed_lines ls) (length (parsed_lines ls)))
first_pass_state_after_last_line b ls i le h =
    let all : i ≡ length (parsed_lines ls) = omega (arith, parsed_lines_length ls, le, h.within) in
    (no_first_fault (first_pass_fault (parsed_lines ls)) (length (parsed_lines ls)) (λ j lt. h.none j (omega (arith, lt, all))), h.start ∙ ap (first_pass_before (parsed_lines ls)) all)

-- ---- the second pass

-- Holds if the address, cells and spans are the state of the second pass before line `i`, and no
-- earlier line has a second-pass error. `names` are the names that the text defines.
pub record IsSecondPassBefore (ls : List (Bor (List ℕ))) (names : Names) (i at : ℕ) (cells : List (Option ℕ)) (spans : List Span) : Type 0 where
  pub within : i ≤ length ls
  pub start : at ≡ address_of (parsed_lines ls) i
  pub holds_pairs : HoldsPairs cells (pairs_before (parsed_lines ls) names i)
  pub spans_so_far : spans ≡ spans_before (parsed_lines ls) names i
  pub none : HasNoFaultBefore (second_pass_fault (parsed_lines ls) names) i

pub second_pass_invariant_at_start : (ls : List (Bor (List ℕ))) (names : Names) → IsSecondPassBefore ls names 0 0 (replicate 4096 None) []
unfolding address_of pairs_before spans_before
second_pass_invariant_at_start ls names = record { within = omega arith; start = refl; holds_pairs = empty_cells_hold_no_pairs; spans_so_far = refl; none = λ j lt. absurd (omega (arith, lt)) }

first_and_last_condition_false : (p q r w : Bool) (a b c d : SourceFault) → cond p (Some a) (cond q (Some b) (cond r (Some c) (cond w (Some d) None))) ≡ None → (p ≡ false) × (w ≡ false)
first_and_last_condition_false true q r w a b c d e = absurd (cc)
first_and_last_condition_false false true r w a b c d e = absurd (cc)
first_and_last_condition_false false false true w a b c d e = absurd (cc)
first_and_last_condition_false false false false true a b c d e = absurd (cc)
first_and_last_condition_false false false false false a b c d e = (refl, refl)

pub valid_number_and_address_if_no_fault : (at : ℕ) (names : Names) (line : Option SourceLine) → first_pass_line_fault at names line ≡ None → HasValidNumberAndAddress at line
valid_number_and_address_if_no_fault at names None e = absurd (cc)
valid_number_and_address_if_no_fault at names (Some line) e = first_and_last_condition_false (has_bad_number line) (is_defined_name (defined_name line) names) (is_some (defined_name line) && leb 512 (length names)) (passes_end line at) OutOfRange DoubleName TooManyNames PastEnd e

-- If no line of a text has a first-pass error, line `i` satisfies `HasValidNumberAndAddress`.
pub valid_ith_line_if_no_first_pass_fault : (ls : List (Bor (List ℕ))) (names : Names) (i at : ℕ) (cells : List (Option ℕ)) (spans : List Span) (d : Bor (List ℕ)) → i < length ls → earliest_first_pass_fault (parsed_lines ls) ≡ None → IsSecondPassBefore ls names i at cells spans → HasValidNumberAndAddress at (line_of (tokens (get_or ls i d).now))
unfolding first_pass_fault
valid_ith_line_if_no_first_pass_fault ls names i at cells spans d lt one h =
    let none : first_pass_fault (parsed_lines ls) i ≡ None = no_fault_before_if_first_fault_is_none (first_pass_fault (parsed_lines ls)) (length (parsed_lines ls)) one i (omega (arith, parsed_lines_length ls, lt)) in
    let passes : HasValidNumberAndAddress (address_of (parsed_lines ls) i) (ith_line (parsed_lines ls) i) = valid_number_and_address_if_no_fault (address_of (parsed_lines ls) i) (names_before (parsed_lines ls) i) (ith_line (parsed_lines ls) i) none in
    subst (λ (n : ℕ). HasValidNumberAndAddress n (line_of (tokens (get_or ls i d).now))) (sym h.start) (subst (HasValidNumberAndAddress (address_of (parsed_lines ls) i)) (parsed_line_at ls i d lt) passes)

pub no_fault_if_bytes_accepted : (s : SecondPassState) (next : ℕ) (r : Result (List ℕ) SourceFault) (t : SecondPassState) → second_pass_with_bytes s next r ≡ Ok t → (second_pass_line_fault s.at s.pairs r ≡ None) × (t ≡ record { at = next; pairs = s.pairs ++ from_address s.at (bytes_or_none r) })
no_fault_if_bytes_accepted s next (Err f) t e = absurd (cc)
no_fault_if_bytes_accepted s next (Ok bytes) t e =
    let new : SecondPassState = record { at = next; pairs = s.pairs ++ from_address s.at bytes } in
    let Q : Bool → Type 0 = λ o. cond o (Err Overlap) (Ok new) ≡ Ok t → (cond o (Some Overlap) None ≡ None) × (t ≡ new) in
    (elim (overlaps s.pairs s.at (length bytes)) as Q [
      | true ↦ λ h. absurd (cc)
      | false ↦ λ h. (refl, cc)
    ]) e

pub fault_if_bytes_rejected : (s : SecondPassState) (next : ℕ) (r : Result (List ℕ) SourceFault) (f : SourceFault) → second_pass_with_bytes s next r ≡ Err f → second_pass_line_fault s.at s.pairs r ≡ Some f
fault_if_bytes_rejected s next (Err g) f e = cc
fault_if_bytes_rejected s next (Ok bytes) f e =
    let new : SecondPassState = record { at = next; pairs = s.pairs ++ from_address s.at bytes } in
    let Q : Bool → Type 0 = λ o. cond o (Err Overlap) (Ok new) ≡ Err f → cond o (Some Overlap) None ≡ Some f in
    (elim (overlaps s.pairs s.at (length bytes)) as Q [
      | true ↦ λ h. cc
      | false ↦ λ h. absurd (cc)
    ]) e

second_pass_before_next_line : (lines : List (Option SourceLine)) (names : Names) (i : ℕ)
    → record { at = address_after_line (ith_line lines i) (address_of lines i); pairs = pairs_before lines names i ++ from_address (address_of lines i) (bytes_or_none (line_bytes (address_of lines i) names (ith_line lines i))) } ≡ second_pass_before lines names (i + 1)
second_pass_before_next_line lines names i =
    ap (λ (n : ℕ). record { at = n; pairs = pairs_before lines names i ++ from_address (address_of lines i) (bytes_or_none (line_bytes (address_of lines i) names (ith_line lines i))) }) (sym (address_of_next_line lines i))
    ∙ ap (λ (ps : List (ℕ × ℕ)). record { at = address_of lines (i + 1); pairs = ps }) (sym (pairs_before_next_line lines names i))

abbrev pub second_pass_state_at : ℕ → List (ℕ × ℕ) → SecondPassState
second_pass_state_at at pairs = record { at = at; pairs = pairs }

second_pass_step_of_ith_line : (ls : List (Bor (List ℕ))) (names : Names) (i at : ℕ) (d : Bor (List ℕ)) (wanted : Result SecondPassState SourceFault) → i < length ls → at ≡ address_of (parsed_lines ls) i
    → second_pass_with_line names (second_pass_state_at at (pairs_before (parsed_lines ls) names i)) (line_of (tokens (get_or ls i d).now)) ≡ wanted → second_pass_with_line names (second_pass_before (parsed_lines ls) names i) (ith_line (parsed_lines ls) i) ≡ wanted
second_pass_step_of_ith_line ls names i at d wanted lt here step =
    ap (λ (n : ℕ). second_pass_with_line names (second_pass_state_at n (pairs_before (parsed_lines ls) names i)) (ith_line (parsed_lines ls) i)) (sym here)
    ∙ (ap (λ (l : Option SourceLine). second_pass_with_line names (second_pass_state_at at (pairs_before (parsed_lines ls) names i)) l) (parsed_line_at ls i d lt) ∙ step)

span_at_address_of_line : (lines : List (Option SourceLine)) (names : Names) (i : ℕ) → span_at (address_of lines i) (line_bytes (address_of lines i) names (ith_line lines i)) ≡ span lines names i
span_at_address_of_line lines names i = ap (λ (n : ℕ). record { at = address_of lines i; size = n }) (sym (length_of_from_address (address_of lines i) (bytes_or_none (line_bytes (address_of lines i) names (ith_line lines i)))))

spans_with_line_appended : (ls : List (Bor (List ℕ))) (names : Names) (i at : ℕ) (spans : List Span) (d : Bor (List ℕ)) → i < length ls → at ≡ address_of (parsed_lines ls) i → spans ≡ spans_before (parsed_lines ls) names i
    → spans ++ span_at at (line_bytes at names (line_of (tokens (get_or ls i d).now))) ∷ [] ≡ spans_before (parsed_lines ls) names (i + 1)
spans_with_line_appended ls names i at spans d lt here spans_so_far =
    let lines : List (Option SourceLine) = parsed_lines ls in
    let line : span_at at (line_bytes at names (line_of (tokens (get_or ls i d).now))) ≡ span_at at (line_bytes at names (ith_line lines i)) = ap (λ (l : Option SourceLine). span_at at (line_bytes at names l)) (sym (parsed_line_at ls i d lt)) in
    let place : span_at at (line_bytes at names (ith_line lines i)) ≡ span lines names i = ap (λ (n : ℕ). span_at n (line_bytes n names (ith_line lines i))) here ∙ span_at_address_of_line lines names i in
    ap (λ (s : List Span). s ++ span_at at (line_bytes at names (line_of (tokens (get_or ls i d).now))) ∷ []) spans_so_far
    ∙ (ap (λ (p : Span). spans_before lines names i ++ p ∷ []) (line ∙ place) ∙ sym (spans_before_next_line lines names i))

-- If line `i` is added without an error, the loop invariant holds before line `i + 1`.
pub second_pass_invariant_at_next_line : (ls : List (Bor (List ℕ))) (names : Names) (i at now : ℕ) (cells new : List (Option ℕ)) (spans more : List Span) (d : Bor (List ℕ)) → i < length ls → IsSecondPassBefore ls names i at cells spans → (t : SecondPassState)
    → second_pass_with_line names (second_pass_state_at at (pairs_before (parsed_lines ls) names i)) (line_of (tokens (get_or ls i d).now)) ≡ Ok t → t.at ≡ now → HoldsPairs new t.pairs → more ≡ spans ++ span_at at (line_bytes at names (line_of (tokens (get_or ls i d).now))) ∷ [] → IsSecondPassBefore ls names (i + 1) now new more
unfolding second_pass_fault
second_pass_invariant_at_next_line ls names i at now cells new spans more d lt h t step is kept added =
    let lines : List (Option SourceLine) = parsed_lines ls in
    let p = no_fault_if_bytes_accepted (second_pass_before lines names i) (address_after_line (ith_line lines i) (address_of lines i)) (line_bytes (address_of lines i) names (ith_line lines i)) t (second_pass_step_of_ith_line ls names i at d (Ok t) lt h.start step) in
    let t_is : t ≡ second_pass_before lines names (i + 1) = p.1 ∙ second_pass_before_next_line lines names i in
    record {
      within = omega (arith, lt);
      start = sym is ∙ ap (λ (s : SecondPassState). s.at) t_is;
      holds_pairs = subst (λ (s : SecondPassState). HoldsPairs new s.pairs) t_is kept;
      spans_so_far = added ∙ spans_with_line_appended ls names i at spans d lt h.start h.spans_so_far;
      none = no_fault_before_next (second_pass_fault lines names) i h.none p.0;
    }

-- If line `i` is the first line with a second-pass error, this error is the earliest error of the
-- text.
pub earliest_error_if_line_rejected : (kind : FaultKind) (line : ℕ) (ls : List (Bor (List ℕ))) (names : Names) (i at now : ℕ) (cells new : List (Option ℕ)) (spans : List Span) (d : Bor (List ℕ)) → i < length ls → IsSecondPassBefore ls names i at cells spans
    → MatchesStateWithAddedBytes (Err kind) now new (second_pass_with_line names (second_pass_state_at at (pairs_before (parsed_lines ls) names i)) (line_of (tokens (get_or ls i d).now))) → IsLineNumber kind i line → IsFirstError kind line (earliest_second_pass_fault (parsed_lines ls) names)
unfolding second_pass_fault
earliest_error_if_line_rejected NoMemory line ls names i at now cells new spans d lt h refused is = is
earliest_error_if_line_rejected (Refused f) line ls names i at now cells new spans d lt h refused is =
    let lines : List (Option SourceLine) = parsed_lines ls in
    first_error_is_fault_of_line (second_pass_fault lines names) ls i line f lt h.none
    (fault_if_bytes_rejected (second_pass_before lines names i) (address_after_line (ith_line lines i) (address_of lines i)) (line_bytes (address_of lines i) names (ith_line lines i)) f (second_pass_step_of_ith_line ls names i at d (Err f) lt h.start refused)) is

-- After the last line, the second pass has the survey and the bytes of all lines.
pub all_lines_emitted : (ls : List (Bor (List ℕ))) (names : Names) (i at : ℕ) (cells : List (Option ℕ)) (spans : List Span) (found : Survey) → length ls ≤ i → IsSecondPassBefore ls names i at cells spans → found ≡ record { spans = spans; names = names }
    → IsSecondPassResult (Ok (found, cells)) (parsed_lines ls) names
all_lines_emitted ls names i at cells spans found le h is =
    let all : i ≡ length (parsed_lines ls) = omega (arith, parsed_lines_length ls, le, h.within) in (
      no_first_fault (second_pass_fault (parsed_lines ls) names) (length (parsed_lines ls)) (λ j lt. h.none j (omega (arith, lt, all))),
      is ∙ ap (λ (s : List Span). record { spans = s; names = names }) (h.spans_so_far ∙ ap (spans_before (parsed_lines ls) names) all),
      subst (λ (n : ℕ). HoldsPairs cells (pairs_before (parsed_lines ls) names n)) all h.holds_pairs,
    )

-- ---- both passes

-- The earliest first-pass error is the error of the text.
pub assembly_fails_if_first_pass_fails : (kind : FaultKind) (line : ℕ) (text : List ℕ) (ls : List (List ℕ)) → ls ≡ lines_of text → IsFirstError kind line (earliest_first_pass_fault (read ls)) → IsErrorAtLine kind line (assembly_of_text text)
unfolding assembly_of
assembly_fails_if_first_pass_fails NoMemory line text ls is fails = fails
assembly_fails_if_first_pass_fails (Refused f) line text ls is fails =
    let result_is : assembly_of (read ls) ≡ Err (line, f) = rw fails refl in
    ap (λ (l : List (List ℕ)). assembly_of (read l)) (sym is) ∙ result_is

-- If no line has a first-pass error, the earliest second-pass error is the error of the text.
pub assembly_fails_if_second_pass_fails : (kind : FaultKind) (line : ℕ) (text : List ℕ) (ls : List (List ℕ)) (names : Names) → ls ≡ lines_of text → earliest_first_pass_fault (read ls) ≡ None → names ≡ all_names (read ls) → IsFirstError kind line (earliest_second_pass_fault (read ls) names)
    → IsErrorAtLine kind line (assembly_of_text text)
unfolding assembly_of
assembly_fails_if_second_pass_fails NoMemory line text ls names is one same fails = fails
assembly_fails_if_second_pass_fails (Refused f) line text ls names is one same fails =
    let fails' : earliest_second_pass_fault (read ls) (all_names (read ls)) ≡ Some (line, f) = subst (λ (n : Names). earliest_second_pass_fault (read ls) n ≡ Some (line, f)) same fails in
    let result_is : assembly_of (read ls) ≡ Err (line, f) = rw (one, fails') refl in
    ap (λ (l : List (List ℕ)). assembly_of (read l)) (sym is) ∙ result_is

-- If no line has a first-pass error, the result of the second pass is the result of both passes.
pub second_pass_result_is_final : (r : Result (Survey × List (Option ℕ)) AsmFault) (text : List ℕ) (ls : List (List ℕ)) (names : Names) → ls ≡ lines_of text → earliest_first_pass_fault (read ls) ≡ None → names ≡ all_names (read ls) → IsSecondPassResult r (read ls) names → IsResultOfBothPasses r text
second_pass_result_is_final (Err f) text ls names is one same fails = assembly_fails_if_second_pass_fails f.kind f.line text ls names is one same fails
second_pass_result_is_final (Ok found) text ls names is one same passed =
    let assembly_is : assembly_of_text text ≡ Ok (pairs_before (read ls) names (length (read ls))) = assembles_if_no_fault text ls names is one same passed.0 in
    let lines : survey_of (read (lines_of text)) ≡ survey_of (read ls) = ap (λ (l : List (List ℕ)). survey_of (read l)) (sym is) in
    let found_is : survey_of (read ls) ≡ found.0 = ap (λ (n : Names). record { spans = spans_before (read ls) n (length (read ls)); names = n }) (sym same) ∙ sym passed.1 in
    (ap (result_map_both (λ ps. survey_of (read (lines_of text))) (λ f. f)) assembly_is ∙ ap Ok (lines ∙ found_is), (pairs_before (read ls) names (length (read ls)), assembly_is, passed.2))

-- If the assembly of a text fails, its survey fails with the same error.
pub survey_fails_if_assembly_fails : (kind : FaultKind) (line : ℕ) (text : List ℕ) → IsErrorAtLine kind line (assembly_of_text text) → IsErrorAtLine kind line (survey_of_text text)
survey_fails_if_assembly_fails NoMemory line text fails = fails
survey_fails_if_assembly_fails (Refused f) line text fails = ap (result_map_both (λ ps. survey_of (read (lines_of text))) (λ f. f)) fails
