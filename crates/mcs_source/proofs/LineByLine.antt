-- Lemmas about the definitions for line `i`: the step to the next line, and the first line with an
-- error.
use Rattle.std.proofs.Common.{◌≡◌, ℕ, zero, suc, ◌+◌, ◌<◌, ◌≤◌, Bool, false, cond, List, [], ◌∷◌, ◌++◌, length, drop, find, filter_map, flat_map, map, Option, Some, None, is_some, inl, inr, refl, sym, ap, subst, ◌∙◌, append-nil, arith, Ok}
use Rattle.std.specs.List.{range_with_len, cons_option}
use Rattle.std.proofs.lemmas.Bool.{cases_eq}
use Rattle.std.proofs.lemmas.List.{length-drop, drop_more, map_push}
use Rattle.std.proofs.lemmas.List.Concat.{flat_map-append}
use Rattle.std.proofs.lemmas.List.Elements.{filter_map-append}
use Rattle.mcs_source.specs.declared.fault.SourceFault.{SourceFault}
use Rattle.mcs_source.specs.Lines.{SourceLine}
use Rattle.mcs_model.specs.TextLines.{lines_of}
use Rattle.mcs_source.specs.Assembly.{Names, read, ith_line, address_after_line, address_of, definition, names_before, all_names, line_pairs, pairs_before, first_fault, earliest_first_pass_fault, earliest_second_pass_fault, assembly_of, assembly_of_text}
use Rattle.mcs_source.specs.Survey.{span, spans_before}
use Rattle.mcs_model.proofs.ListLemmas.{range-one-more, find_at}
use Rattle.mcs_model.specs.Options.{◌>>=◌}

-- ---- the step from line `i` to line `i + 1`

range_with_next_number : (i : ℕ) → range_with_len 0 (i + 1) ≡ range_with_len 0 i ++ i ∷ []
range_with_next_number i =
    let plus_one : i + 1 ≡ suc i = omega arith in
    let e : 0 + i ≡ i = omega arith in
    ap (range_with_len 0) plus_one ∙ (range-one-more 0 i ∙ ap (λ (k : ℕ). range_with_len 0 i ++ k ∷ []) e)

pub address_of_next_line : (lines : List (Option SourceLine)) (i : ℕ) → address_of lines (i + 1) ≡ address_after_line (ith_line lines i) (address_of lines i)
unfolding address_of
address_of_next_line lines i =
    let plus_one : i + 1 ≡ suc i = omega arith in
    ap (address_of lines) plus_one

pub names_before_next_line : (lines : List (Option SourceLine)) (i : ℕ) → names_before lines (i + 1) ≡ names_before lines i ++ cons_option (definition (ith_line lines i) (address_of lines i)) []
unfolding names_before
names_before_next_line lines i =
    let define : ℕ → Option (List ℕ × ℕ) = λ j. definition (ith_line lines j) (address_of lines j) in
    ap (filter_map define) (range_with_next_number i) ∙ filter_map-append define (range_with_len 0 i) (i ∷ [])

pub pairs_before_next_line : (lines : List (Option SourceLine)) (names : Names) (i : ℕ) → pairs_before lines names (i + 1) ≡ pairs_before lines names i ++ line_pairs lines names i
unfolding pairs_before
pairs_before_next_line lines names i =
    ap (flat_map (line_pairs lines names)) (range_with_next_number i)
    ∙ (flat_map-append (line_pairs lines names) (range_with_len 0 i) (i ∷ []) ∙ ap (λ (l : List (ℕ × ℕ)). flat_map (line_pairs lines names) (range_with_len 0 i) ++ l) (append-nil (line_pairs lines names i)))

pub spans_before_next_line : (lines : List (Option SourceLine)) (names : Names) (i : ℕ) → spans_before lines names (i + 1) ≡ spans_before lines names i ++ span lines names i ∷ []
unfolding spans_before
spans_before_next_line lines names i =
    ap (map (span lines names)) (range_with_next_number i) ∙ map_push (span lines names) (range_with_len 0 i) i

-- ---- the first line with an error

-- Holds if no line before line `i` has an error.
abbrev pub HasNoFaultBefore : (ℕ → Option SourceFault) → ℕ → Type 0
HasNoFaultBefore fault i = (j : ℕ) → j < i → fault j ≡ None

pub no_fault_before_next : (fault : ℕ → Option SourceFault) (i : ℕ) → HasNoFaultBefore fault i → fault i ≡ None → HasNoFaultBefore fault (i + 1)
no_fault_before_next fault i before here j lt = elim (cases_eq j i) [
  | inl same ↦ rw same here
  | inr other ↦ before j (omega (arith, lt, other))
]

find_is_none_if_test_false : (p : ℕ → Bool) (a n : ℕ) → ((j : ℕ) → j < a + n → p j ≡ false) → find p (range_with_len a n) ≡ None
find_is_none_if_test_false p a zero h = refl
find_is_none_if_test_false p a (suc n) h =
    let false_at_a : p a ≡ false = h a (omega arith) in
    rw false_at_a (find_is_none_if_test_false p (a + 1) n (λ j lt. h j (omega (arith, lt))))

abbrev fault_and_line_number : (ℕ → Option SourceFault) → ℕ → Option (ℕ × SourceFault)
fault_and_line_number fault i = fault i >>= λ f. Some (i + 1, f)

pub no_first_fault : (fault : ℕ → Option SourceFault) (n : ℕ) → HasNoFaultBefore fault n → first_fault fault n ≡ None
no_first_fault fault n none =
    let e : find (λ i. is_some (fault i)) (range_with_len 0 n) ≡ None = find_is_none_if_test_false (λ i. is_some (fault i)) 0 n (λ j lt. ap is_some (none j (omega (arith, lt)))) in
    ap (λ (o : Option ℕ). o >>= fault_and_line_number fault) e

pub first_fault_at : (fault : ℕ → Option SourceFault) (n i : ℕ) (f : SourceFault) → i < n → HasNoFaultBefore fault i → fault i ≡ Some f → first_fault fault n ≡ Some (i + 1, f)
first_fault_at fault n i f lt before here =
    let e : find (λ i. is_some (fault i)) (range_with_len 0 n) ≡ Some i = find_at (λ i. is_some (fault i)) 0 n i (omega arith) (omega (arith, lt)) (λ j less. ap is_some (before j less)) (ap is_some here) in
    ap (λ (o : Option ℕ). o >>= fault_and_line_number fault) e ∙ ap (λ (o : Option SourceFault). o >>= λ g. Some (i + 1, g)) here

no_fault_if_none_found_in_range : (fault : ℕ → Option SourceFault) (a n : ℕ) → (find (λ i. is_some (fault i)) (range_with_len a n) >>= fault_and_line_number fault) ≡ None → (j : ℕ) → a ≤ j → j < a + n → fault j ≡ None
no_fault_if_none_found_in_range fault a zero e j low high = absurd (omega (arith, low, high))
no_fault_if_none_found_in_range fault a (suc n) e j low high =
    let Q : Option SourceFault → Type 0 = λ o. fault a ≡ o → (cond (is_some o) (Some a) (find (λ i. is_some (fault i)) (range_with_len (a + 1) n)) >>= fault_and_line_number fault) ≡ None → fault j ≡ None in
    (elim (fault a) as Q [
      | Some f ↦ λ is h. absurd (let some_is_none : Some (a + 1, f) ≡ None = ap (λ (o : Option SourceFault). o >>= λ g. Some (a + 1, g)) (sym is) ∙ h in cc)
      | None ↦ λ is h. elim (cases_eq j a) [
        | inl same ↦ rw same is
        | inr other ↦ no_fault_if_none_found_in_range fault (a + 1) n h j (omega (arith, low, other)) (omega (arith, high))
      ]
    ]) refl e

-- if `first_fault` finds no error in the lines before line `n`, none of these lines has an error
pub no_fault_before_if_first_fault_is_none : (fault : ℕ → Option SourceFault) (n : ℕ) → first_fault fault n ≡ None → HasNoFaultBefore fault n
no_fault_before_if_first_fault_is_none fault n e j lt = no_fault_if_none_found_in_range fault 0 n e j (omega arith) (omega (arith, lt))

-- ---- the whole text

-- If the lines from index `i` are `line` followed by the lines `more`, `line` is line `i`, and
-- `more` are the lines from index `i + 1`.
pub ith_line_of_remaining_lines : (lines : List (Option SourceLine)) (i : ℕ) (line : Option SourceLine) (more : List (Option SourceLine)) → drop i lines ≡ line ∷ more → (i < length lines) × (ith_line lines i ≡ line) × (drop (i + 1) lines ≡ more)
ith_line_of_remaining_lines lines i line more e =
    let lt : i < length lines = omega (arith, length-drop i lines, ap length e) in
    let parts : ith_line lines i ∷ drop (i + 1) lines ≡ line ∷ more = sym (drop_more lines i None lt) ∙ e in
    (lt, cc, cc)

-- if neither pass finds an error in a text, the text assembles to the pairs of all its lines
pub assembles_if_no_fault : (text : List ℕ) (ls : List (List ℕ)) (names : Names) → ls ≡ lines_of text → earliest_first_pass_fault (read ls) ≡ None → names ≡ all_names (read ls) → earliest_second_pass_fault (read ls) names ≡ None
    → assembly_of_text text ≡ Ok (pairs_before (read ls) names (length (read ls)))
unfolding assembly_of
assembles_if_no_fault text ls names is one same two =
    let second_pass_ok : earliest_second_pass_fault (read ls) (all_names (read ls)) ≡ None = subst (λ (n : Names). earliest_second_pass_fault (read ls) n ≡ None) same two in
    let assembles : assembly_of (read ls) ≡ Ok (pairs_before (read ls) (all_names (read ls)) (length (read ls))) = rw (one, second_pass_ok) refl in
    ap (λ (l : List (List ℕ)). assembly_of (read l)) (sym is) ∙ (assembles ∙ ap (λ (n : Names). Ok (pairs_before (read ls) n (length (read ls)))) (sym same))
