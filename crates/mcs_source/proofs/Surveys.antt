-- The addresses in the spans of a text are the addresses of the pairs that the text emits.
use Rattle.std.proofs.Common.{◌≡◌, ℕ, suc, ◌+◌, List, [], ◌∷◌, ◌++◌, length, map, flat_map, Option, Some, None, Result, Ok, refl, sym, ap, ◌∙◌}
use Rattle.std.specs.List.{range_with_len}
use Rattle.std.specs.Result.{result_map_both}
use Rattle.std.proofs.lemmas.List.{map-append}
use Rattle.mcs_source.specs.declared.fault.SourceFault.{SourceFault}
use Rattle.mcs_source.specs.Lines.{SourceLine}
use Rattle.mcs_model.specs.Images.{from_address}
use Rattle.mcs_model.specs.TextLines.{lines_of}
use Rattle.mcs_source.specs.Assembly.{Names, read, address_of, ith_line, all_names, line_bytes, bytes_or_none, line_pairs, pairs_before, unless_fault, earliest_first_pass_fault, earliest_second_pass_fault, assembly_of, assembly_of_text}
use Rattle.mcs_source.specs.Survey.{Survey, span, spans_before, survey_of, survey_of_text}
use Rattle.mcs_source.specs.SpanAddresses.{addresses_of_span}

pub length_of_from_address : (at : ℕ) (bytes : List ℕ) → length (from_address at bytes) ≡ length bytes
length_of_from_address at [] = refl
length_of_from_address at (b ∷ bytes) = ap suc (length_of_from_address (at + 1) bytes)

addresses_in_from_address : (at : ℕ) (bytes : List ℕ) → map (λ p. p.0) (from_address at bytes) ≡ range_with_len at (length bytes)
addresses_in_from_address at [] = refl
addresses_in_from_address at (b ∷ bytes) = ap (λ (l : List ℕ). at ∷ l) (addresses_in_from_address (at + 1) bytes)

addresses_in_line_pairs : (lines : List (Option SourceLine)) (names : Names) (i : ℕ) → map (λ p. p.0) (line_pairs lines names i) ≡ addresses_of_span (span lines names i)
addresses_in_line_pairs lines names i =
    let at : ℕ = address_of lines i in
    let bytes : List ℕ = bytes_or_none (line_bytes at names (ith_line lines i)) in
    addresses_in_from_address at bytes ∙ ap (range_with_len at) (sym (length_of_from_address at bytes))

addresses_in_all_line_pairs : (lines : List (Option SourceLine)) (names : Names) (indices : List ℕ) → map (λ p. p.0) (flat_map (line_pairs lines names) indices) ≡ flat_map addresses_of_span (map (span lines names) indices)
addresses_in_all_line_pairs lines names [] = refl
addresses_in_all_line_pairs lines names (i ∷ indices) =
    map-append (λ (p : ℕ × ℕ). p.0) (line_pairs lines names i) (flat_map (line_pairs lines names) indices)
    ∙ (ap (λ (l : List ℕ). l ++ map (λ p. p.0) (flat_map (line_pairs lines names) indices)) (addresses_in_line_pairs lines names i) ∙ ap (λ (l : List ℕ). addresses_of_span (span lines names i) ++ l) (addresses_in_all_line_pairs lines names indices))

addresses_in_pairs_before : (lines : List (Option SourceLine)) (names : Names) (n : ℕ) → map (λ p. p.0) (pairs_before lines names n) ≡ flat_map addresses_of_span (spans_before lines names n)
unfolding pairs_before spans_before
addresses_in_pairs_before lines names n = addresses_in_all_line_pairs lines names (range_with_len 0 n)

ok_if_unless_fault_is_ok : {A : Type 0} (fault : Option (ℕ × SourceFault)) (r : Result A (ℕ × SourceFault)) (x : A) → unless_fault fault r ≡ Ok x → r ≡ Ok x
ok_if_unless_fault_is_ok None r x e = e
ok_if_unless_fault_is_ok (Some f) r x e = absurd (cc)

ok_values_are_equal : {A : Type 0} (x y : A) (r : Result A (ℕ × SourceFault)) → r ≡ Ok x → r ≡ Ok y → x ≡ y
ok_values_are_equal x y r e f = cc

assembled_pairs_are_pairs_of_all_lines : (lines : List (Option SourceLine)) (pairs : List (ℕ × ℕ)) → assembly_of lines ≡ Ok pairs → pairs_before lines (all_names lines) (length lines) ≡ pairs
unfolding assembly_of
assembled_pairs_are_pairs_of_all_lines lines pairs e =
    let all_pairs : List (ℕ × ℕ) = pairs_before lines (all_names lines) (length lines) in
    let inner = ok_if_unless_fault_is_ok (earliest_first_pass_fault lines) (unless_fault (earliest_second_pass_fault lines (all_names lines)) (Ok all_pairs)) pairs e in
    ok_values_are_equal all_pairs pairs (Ok all_pairs) refl (ok_if_unless_fault_is_ok (earliest_second_pass_fault lines (all_names lines)) (Ok all_pairs) pairs inner)

pub span_addresses_match : (text : List ℕ) (pairs : List (ℕ × ℕ)) (s : Survey) → assembly_of_text text ≡ Ok pairs → survey_of_text text ≡ Ok s → map (λ p. p.0) pairs ≡ flat_map addresses_of_span s.spans
span_addresses_match text pairs s e f =
    let lines : List (Option SourceLine) = read (lines_of text) in
    let equal_surveys : survey_of lines ≡ s = ok_values_are_equal (survey_of lines) s (survey_of_text text) (ap (result_map_both (λ ps. survey_of lines) (λ x. x)) e) f in
    ap (map (λ p. p.0)) (sym (assembled_pairs_are_pairs_of_all_lines lines pairs e)) ∙ (addresses_in_pairs_before lines (all_names lines) (length lines) ∙ ap (λ (t : Survey). flat_map addresses_of_span t.spans) equal_surveys)
