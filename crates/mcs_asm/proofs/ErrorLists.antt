-- Lemmas about the list of reported errors: the loops that collect it, and its first error.
use Rattle.std.proofs.Common.{◌≡◌, ◌⊎◌, ℕ, zero, suc, ◌+◌, ◌<◌, ◌≤◌, true, false, List, [], ◌∷◌, ◌++◌, length, take, get_or, find, filter_map, Bor, Option, Some, None, Result, Ok, Err, is_some, inl, inr, refl, sym, ap, subst, ◌∙◌, append-nil, arith, eqb}
use Rattle.std.specs.Prelude.{option_map}
use Rattle.std.specs.List.{range_with_len, cons_option}
use Rattle.std.proofs.lemmas.List.{length-append, length-take, take_all, take_at}
use Rattle.std.proofs.lemmas.List.Elements.{filter_map-append}
use Rattle.mcs_model.proofs.ListLemmas.{range-one-more}
use Rattle.mcs_model.specs.Options.{◌>>=◌}
use Rattle.mcs_model.specs.TextLines.{lines_of}
use Rattle.mcs_source.specs.declared.fault.SourceFault.{SourceFault}
use Rattle.mcs_source.specs.Lines.{SourceLine, line_of}
use Rattle.mcs_source.specs.Assembly.{assembly_of, assembly_of_text, read, ith_line, Names, address_of, names_before, all_names, pairs_before, line_pairs, line_bytes, bytes_or_none, address_after_line, unless_fault, first_fault, first_pass_line_fault, second_pass_line_fault, first_pass_fault, second_pass_fault, earliest_first_pass_fault, earliest_second_pass_fault}
use Rattle.mcs_source.proofs.LineByLine.{HasNoFaultBefore, no_fault_before_next, no_first_fault, first_fault_at, no_fault_before_if_first_fault_is_none, pairs_before_next_line, address_of_next_line}
use Rattle.mcs_asm.specs.declared.all_errors.LineError.{LineError}
use Rattle.mcs_asm.specs.Passes.{FirstPassState, first_pass_start, first_pass_before, first_pass_after_line, first_pass_with_line, HasValidNumberAndAddress, SecondPassState, second_pass_with_bytes, MatchesStateWithAddedBytes}
use Rattle.mcs_asm.specs.declared.fault.FaultKind.{FaultKind}
use Rattle.mcs_asm.specs.declared.fault.FaultKind.TheVariants.{Refused}
use Rattle.std.proofs.lemmas.Bool.{true≢false, eqb-true}
use Rattle.mcs_asm.specs.Errors.{unless_error, first_pass_skipping_errors, first_pass_error, pairs_skipping_errors, second_pass_error, error_at, errors_before, first_pass_errors, second_pass_errors, errors_or_else, reported_errors, errors_of_text, first_listed_error, assembly_error}
use Rattle.mcs_asm.proofs.PassLists.{first_pass_before_next_line, parsed_lines, parsed_line_at, parsed_lines_length, no_fault_if_line_accepted, fault_if_line_rejected, valid_number_and_address_if_no_fault, no_fault_if_bytes_accepted, fault_if_bytes_rejected}
use Rattle.mcs_asm.proofs.CellPairs.{empty_cells_hold_no_pairs}
use Rattle.mcs_asm.specs.ByteCells.{HoldsPairs}
use Rattle.mcs_source.specs.Lexical.{tokens}
use Rattle.mcs_model.specs.Images.{from_address}
use lib.ListN.{replicate}

-- ---- one more line

add_one_is_suc : (i : ℕ) → i + 1 ≡ suc i
add_one_is_suc i = omega arith

pub errors_before_next_line : (error : ℕ → Option SourceFault) (i : ℕ) → errors_before error (i + 1) ≡ errors_before error i ++ cons_option (option_map (error_at i) (error i)) []
unfolding errors_before
errors_before_next_line error i =
    let f : ℕ → Option LineError = λ j. option_map (error_at j) (error j) in
    let next : range_with_len 0 (i + 1) ≡ range_with_len 0 i ++ i ∷ [] = ap (range_with_len 0) (add_one_is_suc i) ∙ (range-one-more 0 i ∙ ap (λ (k : ℕ). range_with_len 0 i ++ k ∷ []) (omega arith)) in
    ap (filter_map f) next ∙ filter_map-append f (range_with_len 0 i) (i ∷ [])

pub state_skipping_errors_of_next_line : (lines : List (Option SourceLine)) (i : ℕ)
    → first_pass_skipping_errors lines (i + 1) ≡ unless_error (first_pass_error lines i) (first_pass_skipping_errors lines i) (first_pass_after_line (first_pass_skipping_errors lines i) (ith_line lines i))
unfolding first_pass_skipping_errors first_pass_error
state_skipping_errors_of_next_line lines i = ap (first_pass_skipping_errors lines) (add_one_is_suc i)

pub pairs_skipping_errors_of_next_line : (lines : List (Option SourceLine)) (names : Names) (i : ℕ)
    → pairs_skipping_errors lines names (i + 1) ≡ unless_error (second_pass_error lines names i) (pairs_skipping_errors lines names i) (pairs_skipping_errors lines names i ++ line_pairs lines names i)
unfolding pairs_skipping_errors second_pass_error
pairs_skipping_errors_of_next_line lines names i = ap (pairs_skipping_errors lines names) (add_one_is_suc i)

-- ---- the limit on the number of reported errors

take_of_taken_prefix : (n : ℕ) (xs ys : List LineError) → take n (take n xs ++ ys) ≡ take n (xs ++ ys)
take_of_taken_prefix zero xs ys = refl
take_of_taken_prefix (suc n) [] ys = refl
take_of_taken_prefix (suc n) (x ∷ xs) ys = ap (λ zs. x ∷ zs) (take_of_taken_prefix n xs ys)

pub reported_errors_of_reported_prefix : (xs ys : List LineError) → reported_errors (reported_errors xs ++ ys) ≡ reported_errors (xs ++ ys)
reported_errors_of_reported_prefix xs ys = take_of_taken_prefix 100 xs ys

pub error_reported_if_room : (xs : List LineError) (e : LineError) → length xs < 100 → xs ++ e ∷ [] ≡ reported_errors (xs ++ e ∷ [])
error_reported_if_room xs e lt = sym (take_all 100 (xs ++ e ∷ []) (omega (arith, length-append xs (e ∷ []), lt)))

pub error_dropped_if_full : (xs : List LineError) (e : LineError) → length xs ≤ 100 → 100 ≤ length xs → xs ≡ reported_errors (xs ++ e ∷ [])
error_dropped_if_full xs e le ge = sym (take_at xs (e ∷ []) 100 (omega (arith, le, ge)))

pub reported_errors_of_at_most_100 : (xs : List LineError) → length xs ≤ 100 → xs ≡ reported_errors (xs ++ [])
reported_errors_of_at_most_100 xs le = sym (take_all 100 xs le) ∙ ap reported_errors (sym (append-nil xs))

pub reported_at_most_100 : (xs : List LineError) → length (reported_errors xs) ≤ 100
reported_at_most_100 xs = omega (arith, length-take 100 xs)

first_listed_error_of_take : (n : ℕ) (xs : List LineError) → 0 < n → first_listed_error (take n xs) ≡ first_listed_error xs
first_listed_error_of_take zero xs lt = absurd (omega (arith, lt))
first_listed_error_of_take (suc n) [] lt = refl
first_listed_error_of_take (suc n) (x ∷ xs) lt = refl

-- ---- the first error in the list

first_listed_error_of_indices : (error : ℕ → Option SourceFault) (is : List ℕ) → first_listed_error (filter_map (λ j. option_map (error_at j) (error j)) is) ≡ (find (λ i. is_some (error i)) is >>= λ i. error i >>= λ f. Some (i + 1, f))
first_listed_error_of_indices error [] = refl
first_listed_error_of_indices error (i ∷ is) =
    let Q : Option SourceFault → Type 0 = λ o. error i ≡ o → first_listed_error (filter_map (λ j. option_map (error_at j) (error j)) (i ∷ is)) ≡ (find (λ i. is_some (error i)) (i ∷ is) >>= λ i. error i >>= λ f. Some (i + 1, f)) in
    (elim (error i) as Q [
      | None ↦ λ here. rw here (first_listed_error_of_indices error is)
      | Some f ↦ λ here. rw (here, here) refl
    ]) refl

pub first_reported_error_is_first_fault : (error : ℕ → Option SourceFault) (n : ℕ) → first_listed_error (reported_errors (errors_before error n)) ≡ first_fault error n
unfolding errors_before
first_reported_error_is_first_fault error n = first_listed_error_of_take 100 (errors_before error n) (omega arith) ∙ first_listed_error_of_indices error (range_with_len 0 n)

-- Holds if no line before line `n` has an error, or if one of these lines is the first line with an
-- error.
abbrev HasNoFaultOrFirstFault : (ℕ → Option SourceFault) → ℕ → Type 0
HasNoFaultOrFirstFault fault n = HasNoFaultBefore fault n ⊎ ((i : ℕ) × (f : SourceFault) × (i < n) × HasNoFaultBefore fault i × (fault i ≡ Some f))

no_fault_or_first_fault : (fault : ℕ → Option SourceFault) (n : ℕ) → HasNoFaultOrFirstFault fault n
no_fault_or_first_fault fault zero = inl (λ j lt. absurd (omega (arith, lt)))
no_fault_or_first_fault fault (suc n) = elim (no_fault_or_first_fault fault n) [
  | inr x ↦ inr (x.0, x.1, omega (arith, x.2), x.3, x.4)
  | inl none ↦
      let Q : Option SourceFault → Type 0 = λ o. fault n ≡ o → HasNoFaultOrFirstFault fault (suc n) in
      (elim (fault n) as Q [
        | None ↦ λ here. inl (subst (HasNoFaultBefore fault) (add_one_is_suc n) (no_fault_before_next fault n none here))
        | Some f ↦ λ here. inr (n, f, omega arith, none, here)
      ]) refl
]

first_faults_agree : (error fault : ℕ → Option SourceFault) (n : ℕ) → ((i : ℕ) → HasNoFaultBefore fault i → error i ≡ fault i) → first_fault error n ≡ first_fault fault n
first_faults_agree error fault n same = elim (no_fault_or_first_fault fault n) [
  | inl none ↦ no_first_fault error n (λ j lt. same j (λ k less. none k (omega (arith, lt, less))) ∙ none j lt) ∙ sym (no_first_fault fault n none)
  | inr x ↦ first_fault_at error n x.0 x.1 x.2 (λ j lt. same j (λ k less. x.3 k (omega (arith, lt, less))) ∙ x.3 j lt) (same x.0 x.3 ∙ x.4) ∙ sym (first_fault_at fault n x.0 x.1 x.2 x.3 x.4)
]

no_first_pass_fault_at : (lines : List (Option SourceLine)) (i : ℕ) → first_pass_fault lines i ≡ None → first_pass_line_fault (address_of lines i) (names_before lines i) (ith_line lines i) ≡ None
unfolding first_pass_fault
no_first_pass_fault_at lines i e = e

no_second_pass_fault_at : (lines : List (Option SourceLine)) (names : Names) (i : ℕ) → second_pass_fault lines names i ≡ None → second_pass_line_fault (address_of lines i) (pairs_before lines names i) (line_bytes (address_of lines i) names (ith_line lines i)) ≡ None
unfolding second_pass_fault
no_second_pass_fault_at lines names i e = e

-- If no line before line `i` has a first-pass error, none of these lines is skipped.
pub no_line_skipped_before_first_fault : (lines : List (Option SourceLine)) (i : ℕ) → HasNoFaultBefore (first_pass_fault lines) i → first_pass_skipping_errors lines i ≡ first_pass_before lines i
unfolding first_pass_skipping_errors address_of names_before
no_line_skipped_before_first_fault lines zero none = refl
no_line_skipped_before_first_fault lines (suc i) none =
    let same : first_pass_skipping_errors lines i ≡ first_pass_before lines i = no_line_skipped_before_first_fault lines i (λ j lt. none j (omega (arith, lt))) in
    let here : first_pass_line_fault (address_of lines i) (names_before lines i) (ith_line lines i) ≡ None = no_first_pass_fault_at lines i (none i (omega arith)) in
    let step : unless_error (first_pass_line_fault (first_pass_skipping_errors lines i).at (first_pass_skipping_errors lines i).names (ith_line lines i)) (first_pass_skipping_errors lines i) (first_pass_after_line (first_pass_skipping_errors lines i) (ith_line lines i))
    ≡ unless_error (first_pass_line_fault (first_pass_before lines i).at (first_pass_before lines i).names (ith_line lines i)) (first_pass_before lines i) (first_pass_after_line (first_pass_before lines i) (ith_line lines i)) = ap (λ (b : FirstPassState). unless_error (first_pass_line_fault b.at b.names (ith_line lines i)) b (first_pass_after_line b (ith_line lines i))) same in
    step ∙ (ap (λ (o : Option SourceFault). unless_error o (first_pass_before lines i) (first_pass_after_line (first_pass_before lines i) (ith_line lines i))) here ∙ (first_pass_before_next_line lines i ∙ ap (first_pass_before lines) (add_one_is_suc i)))

first_pass_error_agrees : (lines : List (Option SourceLine)) (i : ℕ) → HasNoFaultBefore (first_pass_fault lines) i → first_pass_error lines i ≡ first_pass_fault lines i
unfolding first_pass_error first_pass_fault
first_pass_error_agrees lines i none = ap (λ (b : FirstPassState). first_pass_line_fault b.at b.names (ith_line lines i)) (no_line_skipped_before_first_fault lines i none)

pub first_reported_error_of_first_pass : (lines : List (Option SourceLine)) → first_listed_error (reported_errors (first_pass_errors lines)) ≡ earliest_first_pass_fault lines
first_reported_error_of_first_pass lines = first_reported_error_is_first_fault (first_pass_error lines) (length lines) ∙ first_faults_agree (first_pass_error lines) (first_pass_fault lines) (length lines) (first_pass_error_agrees lines)

-- If no line before line `i` has a second-pass error, each of these lines emits its bytes.
no_pairs_skipped_before_first_fault : (lines : List (Option SourceLine)) (names : Names) (i : ℕ) → HasNoFaultBefore (second_pass_fault lines names) i → pairs_skipping_errors lines names i ≡ pairs_before lines names i
unfolding pairs_skipping_errors pairs_before
no_pairs_skipped_before_first_fault lines names zero none = refl
no_pairs_skipped_before_first_fault lines names (suc i) none =
    let same : pairs_skipping_errors lines names i ≡ pairs_before lines names i = no_pairs_skipped_before_first_fault lines names i (λ j lt. none j (omega (arith, lt))) in
    let here : second_pass_line_fault (address_of lines i) (pairs_before lines names i) (line_bytes (address_of lines i) names (ith_line lines i)) ≡ None = no_second_pass_fault_at lines names i (none i (omega arith)) in
    let step = ap (λ (ps : List (ℕ × ℕ)). unless_error (second_pass_line_fault (address_of lines i) ps (line_bytes (address_of lines i) names (ith_line lines i))) ps (ps ++ line_pairs lines names i)) same in
    step ∙ (ap (λ (o : Option SourceFault). unless_error o (pairs_before lines names i) (pairs_before lines names i ++ line_pairs lines names i)) here ∙ (sym (pairs_before_next_line lines names i) ∙ ap (pairs_before lines names) (add_one_is_suc i)))

second_pass_error_agrees : (lines : List (Option SourceLine)) (names : Names) (i : ℕ) → HasNoFaultBefore (second_pass_fault lines names) i → second_pass_error lines names i ≡ second_pass_fault lines names i
unfolding second_pass_error second_pass_fault
second_pass_error_agrees lines names i none = ap (λ (ps : List (ℕ × ℕ)). second_pass_line_fault (address_of lines i) ps (line_bytes (address_of lines i) names (ith_line lines i))) (no_pairs_skipped_before_first_fault lines names i none)

pub first_reported_error_of_second_pass : (lines : List (Option SourceLine)) → first_listed_error (reported_errors (second_pass_errors lines)) ≡ earliest_second_pass_fault lines (all_names lines)
first_reported_error_of_second_pass lines = first_reported_error_is_first_fault (second_pass_error lines (all_names lines)) (length lines) ∙ first_faults_agree (second_pass_error lines (all_names lines)) (second_pass_fault lines (all_names lines)) (length lines) (second_pass_error_agrees lines (all_names lines))

-- ---- the whole text

first_listed_error_of_errors_or_else : {A : Type 0} (one two : List LineError) (x y : Option (ℕ × SourceFault)) (z : A) → first_listed_error one ≡ x → first_listed_error two ≡ y → first_listed_error (errors_or_else one two) ≡ assembly_error (unless_fault x (unless_fault y (Ok z)))
first_listed_error_of_errors_or_else {A} [] [] x y z e f = rw (← e, ← f) refl
first_listed_error_of_errors_or_else {A} [] (b ∷ bs) x y z e f = rw (← e, ← f) refl
first_listed_error_of_errors_or_else {A} (a ∷ more) two x y z e f = rw (← e) refl

pub first_listed_error_of_text : (text : List ℕ) → first_listed_error (errors_of_text text) ≡ assembly_error (assembly_of_text text)
unfolding assembly_of
first_listed_error_of_text text =
    let lines : List (Option SourceLine) = read (lines_of text) in
    first_listed_error_of_errors_or_else (reported_errors (first_pass_errors lines)) (reported_errors (second_pass_errors lines)) (earliest_first_pass_fault lines) (earliest_second_pass_fault lines (all_names lines)) (pairs_before lines (all_names lines) (length lines)) (first_reported_error_of_first_pass lines) (first_reported_error_of_second_pass lines)

-- ---- texts without first-pass errors

pub no_first_pass_fault_if_none_reported : (lines : List (Option SourceLine)) → reported_errors (first_pass_errors lines) ≡ [] → earliest_first_pass_fault lines ≡ None
no_first_pass_fault_if_none_reported lines e = sym (first_reported_error_of_first_pass lines) ∙ ap first_listed_error e

pub no_line_skipped_if_none_reported : (lines : List (Option SourceLine)) → reported_errors (first_pass_errors lines) ≡ [] → first_pass_skipping_errors lines (length lines) ≡ first_pass_before lines (length lines)
no_line_skipped_if_none_reported lines e = no_line_skipped_before_first_fault lines (length lines) (no_fault_before_if_first_fault_is_none (first_pass_fault lines) (length lines) (no_first_pass_fault_if_none_reported lines e))

-- ---- the loops

-- If adding a line succeeds, the line has no first-pass error, and the new state is
-- `first_pass_after_line`.
pub added_line_has_no_error : (b new : FirstPassState) (l : Option SourceLine) → first_pass_with_line b l ≡ Ok new → (None ≡ first_pass_line_fault b.at b.names l) × (new ≡ first_pass_after_line b l)
added_line_has_no_error b new l e =
    let p = no_fault_if_line_accepted (first_pass_line_fault b.at b.names l) (first_pass_after_line b l) new e in
    (sym p.0, p.1)

pub rejected_line_has_error : (b : FirstPassState) (l : Option SourceLine) (f : SourceFault) → first_pass_with_line b l ≡ Err f → Some f ≡ first_pass_line_fault b.at b.names l
rejected_line_has_error b l f e = sym (fault_if_line_rejected (first_pass_line_fault b.at b.names l) (first_pass_after_line b l) f e)

-- Holds if `b` and `errors` are the state and the reported errors of the first pass before line
-- `i`.
pub record IsFirstPassReported (ls : List (Bor (List ℕ))) (i : ℕ) (b : FirstPassState) (errors : List LineError) : Type 0 where
  pub within : i ≤ length ls
  pub start : b ≡ first_pass_skipping_errors (parsed_lines ls) i
  pub reported : errors ≡ reported_errors (errors_before (first_pass_error (parsed_lines ls)) i)

pub first_pass_report_at_start : (ls : List (Bor (List ℕ))) → IsFirstPassReported ls 0 first_pass_start []
unfolding first_pass_skipping_errors errors_before
first_pass_report_at_start ls = record { within = omega arith; start = refl; reported = sym (take_all 100 [] (omega arith)) }

reported_errors_before_next_line : (error : ℕ → Option SourceFault) (i : ℕ) (o : Option SourceFault) (errors more : List LineError) → errors ≡ reported_errors (errors_before error i) → o ≡ error i → more ≡ reported_errors (errors ++ cons_option (option_map (error_at i) o) [])
    → more ≡ reported_errors (errors_before error (i + 1))
reported_errors_before_next_line error i o errors more reported same e =
    e
    ∙ (ap (λ (xs : List LineError). reported_errors (xs ++ cons_option (option_map (error_at i) o) [])) reported
    ∙ (reported_errors_of_reported_prefix (errors_before error i) (cons_option (option_map (error_at i) o) [])
    ∙ (ap (λ (p : Option SourceFault). reported_errors (errors_before error i ++ cons_option (option_map (error_at i) p) [])) same
    ∙ ap reported_errors (sym (errors_before_next_line error i)))))

first_pass_error_of_ith_line : (b : FirstPassState) (ls : List (Bor (List ℕ))) (i : ℕ) (d : Bor (List ℕ)) → i < length ls → b ≡ first_pass_skipping_errors (parsed_lines ls) i → first_pass_line_fault b.at b.names (line_of (tokens (get_or ls i d).now)) ≡ first_pass_error (parsed_lines ls) i
unfolding first_pass_error
first_pass_error_of_ith_line b ls i d lt here =
    ap (λ (l : Option SourceLine). first_pass_line_fault b.at b.names l) (sym (parsed_line_at ls i d lt)) ∙ ap (λ (c : FirstPassState). first_pass_line_fault c.at c.names (ith_line (parsed_lines ls) i)) here

pub first_pass_report_at_next_line : (ls : List (Bor (List ℕ))) (i : ℕ) (b new : FirstPassState) (errors more : List LineError) (d : Bor (List ℕ)) (o : Option SourceFault) → i < length ls → IsFirstPassReported ls i b errors
    → o ≡ first_pass_line_fault b.at b.names (line_of (tokens (get_or ls i d).now)) → new ≡ unless_error o b (first_pass_after_line b (line_of (tokens (get_or ls i d).now))) → more ≡ reported_errors (errors ++ cons_option (option_map (error_at i) o) []) → IsFirstPassReported ls (i + 1) new more
first_pass_report_at_next_line ls i b new errors more d o lt h same step e =
    let lines : List (Option SourceLine) = parsed_lines ls in
    let is : o ≡ first_pass_error lines i = same ∙ first_pass_error_of_ith_line b ls i d lt h.start in
    let here : new ≡ first_pass_skipping_errors lines (i + 1) =
    step
    ∙ (ap (λ (l : Option SourceLine). unless_error o b (first_pass_after_line b l)) (sym (parsed_line_at ls i d lt))
    ∙ (ap (λ (c : FirstPassState). unless_error o c (first_pass_after_line c (ith_line lines i))) h.start
    ∙ (ap (λ (p : Option SourceFault). unless_error p (first_pass_skipping_errors lines i) (first_pass_after_line (first_pass_skipping_errors lines i) (ith_line lines i))) is ∙ sym (state_skipping_errors_of_next_line lines i)))) in
    record { within = omega (arith, lt); start = here; reported = reported_errors_before_next_line (first_pass_error lines) i o errors more h.reported is e }

pub first_pass_report_after_last_line : (ls : List (Bor (List ℕ))) (i : ℕ) (b : FirstPassState) (errors : List LineError) → length ls ≤ i → IsFirstPassReported ls i b errors → (b ≡ first_pass_skipping_errors (parsed_lines ls) (length ls)) × (errors ≡ reported_errors (first_pass_errors (parsed_lines ls)))
first_pass_report_after_last_line ls i b errors le h =
    let all : i ≡ length ls = omega (arith, le, h.within) in
    (h.start ∙ ap (first_pass_skipping_errors (parsed_lines ls)) all, h.reported ∙ ap (λ (n : ℕ). reported_errors (errors_before (first_pass_error (parsed_lines ls)) n)) (all ∙ sym (parsed_lines_length ls)))

pub first_pass_report_has_at_most_100 : (ls : List (Bor (List ℕ))) (i : ℕ) (b : FirstPassState) (errors : List LineError) → IsFirstPassReported ls i b errors → length errors ≤ 100
first_pass_report_has_at_most_100 ls i b errors h = rw h.reported (reported_at_most_100 (errors_before (first_pass_error (parsed_lines ls)) i))

-- Holds if `at`, `cells` and `errors` are the state and the reported errors of the second pass
-- before line `i`.
pub record IsSecondPassReported (ls : List (Bor (List ℕ))) (names : Names) (i at : ℕ) (cells : List (Option ℕ)) (errors : List LineError) : Type 0 where
  pub within : i ≤ length ls
  pub start : at ≡ address_of (parsed_lines ls) i
  pub holds_pairs : HoldsPairs cells (pairs_skipping_errors (parsed_lines ls) names i)
  pub reported : errors ≡ reported_errors (errors_before (second_pass_error (parsed_lines ls) names) i)

pub second_pass_report_at_start : (ls : List (Bor (List ℕ))) (names : Names) → IsSecondPassReported ls names 0 0 (replicate 4096 None) []
unfolding address_of pairs_skipping_errors errors_before
second_pass_report_at_start ls names = record { within = omega arith; start = refl; holds_pairs = empty_cells_hold_no_pairs; reported = sym (take_all 100 [] (omega arith)) }

pub valid_ith_line_in_second_pass_report : (ls : List (Bor (List ℕ))) (names : Names) (i at : ℕ) (cells : List (Option ℕ)) (errors : List LineError) (d : Bor (List ℕ)) → i < length ls → earliest_first_pass_fault (parsed_lines ls) ≡ None → IsSecondPassReported ls names i at cells errors
    → HasValidNumberAndAddress at (line_of (tokens (get_or ls i d).now))
valid_ith_line_in_second_pass_report ls names i at cells errors d lt one h =
    let none : first_pass_fault (parsed_lines ls) i ≡ None = no_fault_before_if_first_fault_is_none (first_pass_fault (parsed_lines ls)) (length (parsed_lines ls)) one i (omega (arith, parsed_lines_length ls, lt)) in
    let passes : HasValidNumberAndAddress (address_of (parsed_lines ls) i) (ith_line (parsed_lines ls) i) = valid_number_and_address_if_no_fault (address_of (parsed_lines ls) i) (names_before (parsed_lines ls) i) (ith_line (parsed_lines ls) i) (no_first_pass_fault_at (parsed_lines ls) i none) in
    subst (λ (n : ℕ). HasValidNumberAndAddress n (line_of (tokens (get_or ls i d).now))) (sym h.start) (subst (HasValidNumberAndAddress (address_of (parsed_lines ls) i)) (parsed_line_at ls i d lt) passes)

line_bytes_of_ith_line : (ls : List (Bor (List ℕ))) (names : Names) (i at : ℕ) (d : Bor (List ℕ)) → i < length ls → at ≡ address_of (parsed_lines ls) i → line_bytes at names (line_of (tokens (get_or ls i d).now)) ≡ line_bytes (address_of (parsed_lines ls) i) names (ith_line (parsed_lines ls) i)
line_bytes_of_ith_line ls names i at d lt here =
    ap (λ (l : Option SourceLine). line_bytes at names l) (sym (parsed_line_at ls i d lt)) ∙ ap (λ (n : ℕ). line_bytes n names (ith_line (parsed_lines ls) i)) here

second_pass_error_of_ith_line : (ls : List (Bor (List ℕ))) (names : Names) (i at : ℕ) (d : Bor (List ℕ)) → i < length ls → at ≡ address_of (parsed_lines ls) i
    → second_pass_line_fault at (pairs_skipping_errors (parsed_lines ls) names i) (line_bytes at names (line_of (tokens (get_or ls i d).now))) ≡ second_pass_error (parsed_lines ls) names i
unfolding second_pass_error
second_pass_error_of_ith_line ls names i at d lt here =
    ap (λ (r : Result (List ℕ) SourceFault). second_pass_line_fault at (pairs_skipping_errors (parsed_lines ls) names i) r) (line_bytes_of_ith_line ls names i at d lt here)
    ∙ ap (λ (n : ℕ). second_pass_line_fault n (pairs_skipping_errors (parsed_lines ls) names i) (line_bytes (address_of (parsed_lines ls) i) names (ith_line (parsed_lines ls) i))) here

pub second_pass_report_at_next_line : (ls : List (Bor (List ℕ))) (names : Names) (i at now : ℕ) (cells new : List (Option ℕ)) (errors more : List LineError) (d : Bor (List ℕ)) (o : Option SourceFault) → i < length ls → IsSecondPassReported ls names i at cells errors
    → (o ≡ second_pass_line_fault at (pairs_skipping_errors (parsed_lines ls) names i) (line_bytes at names (line_of (tokens (get_or ls i d).now))))
    × HoldsPairs new (unless_error o (pairs_skipping_errors (parsed_lines ls) names i) (pairs_skipping_errors (parsed_lines ls) names i ++ from_address at (bytes_or_none (line_bytes at names (line_of (tokens (get_or ls i d).now))))))
    → now ≡ address_after_line (line_of (tokens (get_or ls i d).now)) at → more ≡ reported_errors (errors ++ cons_option (option_map (error_at i) o) []) → IsSecondPassReported ls names (i + 1) now new more
second_pass_report_at_next_line ls names i at now cells new errors more d o lt h reports step e =
    let lines : List (Option SourceLine) = parsed_lines ls in
    let is : o ≡ second_pass_error lines names i = reports.0 ∙ second_pass_error_of_ith_line ls names i at d lt h.start in
    let here : now ≡ address_of lines (i + 1) =
    step ∙ (ap (λ (l : Option SourceLine). address_after_line l at) (sym (parsed_line_at ls i d lt)) ∙ (ap (address_after_line (ith_line lines i)) h.start ∙ sym (address_of_next_line lines i))) in
    let added : from_address at (bytes_or_none (line_bytes at names (line_of (tokens (get_or ls i d).now)))) ≡ line_pairs lines names i =
    ap (λ (r : Result (List ℕ) SourceFault). from_address at (bytes_or_none r)) (line_bytes_of_ith_line ls names i at d lt h.start)
    ∙ ap (λ (n : ℕ). from_address n (bytes_or_none (line_bytes (address_of lines i) names (ith_line lines i)))) h.start in
    let pairs : unless_error o (pairs_skipping_errors lines names i) (pairs_skipping_errors lines names i ++ from_address at (bytes_or_none (line_bytes at names (line_of (tokens (get_or ls i d).now))))) ≡ pairs_skipping_errors lines names (i + 1) =
    ap (λ (ps : List (ℕ × ℕ)). unless_error o (pairs_skipping_errors lines names i) (pairs_skipping_errors lines names i ++ ps)) added
    ∙ (ap (λ (p : Option SourceFault). unless_error p (pairs_skipping_errors lines names i) (pairs_skipping_errors lines names i ++ line_pairs lines names i)) is ∙ sym (pairs_skipping_errors_of_next_line lines names i)) in
    record { within = omega (arith, lt); start = here; holds_pairs = subst (HoldsPairs new) pairs reports.1; reported = reported_errors_before_next_line (second_pass_error lines names) i o errors more h.reported is e }

pub second_pass_report_after_last_line : (ls : List (Bor (List ℕ))) (names : Names) (i at : ℕ) (cells : List (Option ℕ)) (errors : List LineError) → length ls ≤ i → names ≡ all_names (parsed_lines ls) → IsSecondPassReported ls names i at cells errors → errors ≡ reported_errors (second_pass_errors (parsed_lines ls))
second_pass_report_after_last_line ls names i at cells errors le same h =
    let all : i ≡ length ls = omega (arith, le, h.within) in
    h.reported
    ∙ (ap (λ (n : ℕ). reported_errors (errors_before (second_pass_error (parsed_lines ls) names) n)) (all ∙ sym (parsed_lines_length ls))
    ∙ ap (λ (ns : Names). reported_errors (errors_before (second_pass_error (parsed_lines ls) ns) (length (parsed_lines ls)))) same)

pub second_pass_report_has_at_most_100 : (ls : List (Bor (List ℕ))) (names : Names) (i at : ℕ) (cells : List (Option ℕ)) (errors : List LineError) → IsSecondPassReported ls names i at cells errors → length errors ≤ 100
second_pass_report_has_at_most_100 ls names i at cells errors h = rw h.reported (reported_at_most_100 (errors_before (second_pass_error (parsed_lines ls) names) i))

-- If adding the bytes succeeds, the bytes overlap no pairs, and the cells then contain the pairs
-- and the bytes.
pub cells_hold_bytes_if_accepted : (at next now : ℕ) (pairs : List (ℕ × ℕ)) (bytes : List ℕ) (cells : List (Option ℕ)) → MatchesStateWithAddedBytes (Ok tt) now cells (second_pass_with_bytes (record { at = at; pairs = pairs }) next (Ok bytes)) → (None ≡ second_pass_line_fault at pairs (Ok bytes)) × HoldsPairs cells (pairs ++ from_address at bytes)
cells_hold_bytes_if_accepted at next now pairs bytes cells r =
    let p = no_fault_if_bytes_accepted (record { at = at; pairs = pairs }) next (Ok bytes) r.0 r.1 in
    (sym p.0, subst (λ (s : SecondPassState). HoldsPairs cells s.pairs) p.1 r.3)

pub cells_unchanged_if_bytes_rejected : (at next now : ℕ) (pairs : List (ℕ × ℕ)) (bytes : List ℕ) (old cells : List (Option ℕ)) (f : SourceFault) (kind : FaultKind) → kind ≡ Refused f → HoldsPairs old pairs → cells ≡ old
    → MatchesStateWithAddedBytes (Err kind) now cells (second_pass_with_bytes (record { at = at; pairs = pairs }) next (Ok bytes)) → (Some f ≡ second_pass_line_fault at pairs (Ok bytes)) × HoldsPairs cells pairs
cells_unchanged_if_bytes_rejected at next now pairs bytes old cells f kind is kept same r =
    let s : SecondPassState = record { at = at; pairs = pairs } in
    let refused : second_pass_with_bytes s next (Ok bytes) ≡ Err f = subst (λ (k : FaultKind). MatchesStateWithAddedBytes (Err k) now cells (second_pass_with_bytes s next (Ok bytes))) is r in
    (sym (fault_if_bytes_rejected s next (Ok bytes) f refused), subst (λ (c : List (Option ℕ)). HoldsPairs c pairs) (sym same) kept)

pub empty_if_length_0 : (xs : List LineError) → eqb (length xs) 0 ≡ true → xs ≡ []
empty_if_length_0 [] e = refl
empty_if_length_0 (x ∷ xs) e =
    let none : length (x ∷ xs) ≡ 0 = eqb-true (length (x ∷ xs)) 0 e in
    absurd (omega (arith, none))

-- If the list of first-pass errors is not empty, `errors_or_else` returns this list.
pub errors_or_else_is_first : (xs one two : List LineError) → xs ≡ one → eqb (length xs) 0 ≡ false → xs ≡ errors_or_else one two
errors_or_else_is_first xs [] two e some = absurd (true≢false (ap (λ (ys : List LineError). eqb (length ys) 0) (sym e) ∙ some))
errors_or_else_is_first xs (y ∷ ys) two e some = e
