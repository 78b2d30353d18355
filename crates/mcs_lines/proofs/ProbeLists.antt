-- The invariant of the loop that parses the places of `trace` one by one.
use Rattle.std.proofs.Common.{◌≡◌, ℕ, zero, suc, ◌+◌, ◌≤◌, Bool, true, false, List, [], ◌∷◌, ◌++◌, length, Result, Ok, Err, refl, sym, ap, ◌∙◌, append_assoc, length-append, arith}
use Rattle.mcs_probe.specs.declared.probe.Probe.{Probe}
use Rattle.mcs_lines.specs.declared.requests.LineFault.{LineFault}
use Rattle.mcs_lines.specs.declared.requests.LineFault.TheVariants.{NotACommand, BadNumber, LineTooLong, NotAscii}
use Rattle.mcs_lines.specs.ProbeWords.{is_bad_number, probe_of, probes_within, with_probe}

-- The result of parsing all words: the probes parsed so far, followed by the probes of the
-- remaining words, or the error. The Bool is true if a word parsed so far has a bad number. The
-- last argument is the result of parsing the remaining words.
abbrev pub with_earlier_probes : Bool → List Probe → Result (List Probe) LineFault → Result (List Probe) LineFault
with_earlier_probes false ps (Ok qs) = Ok (ps ++ qs)
with_earlier_probes true ps (Ok qs) = Err BadNumber
with_earlier_probes bad ps (Err fault) = Err fault

-- The invariant: `with_earlier_probes` gives the result of parsing all words (`all`). `ps` are the
-- probes parsed so far, and `rest` are the words that have not been parsed yet. There is room for
-- `room` more probes.
pub record IsParsedSoFar (all rest : List (List ℕ)) (ps : List Probe) (room : ℕ) (bad : Bool) : Type 0 where
  pub within_limit : length ps + room ≤ 16
  pub so_far : probes_within 16 all ≡ with_earlier_probes bad ps (probes_within room rest)

result_without_earlier_probes : (r : Result (List Probe) LineFault) → r ≡ with_earlier_probes false [] r
result_without_earlier_probes (Ok qs) = refl
result_without_earlier_probes (Err fault) = refl

pub parsed_so_far_at_start : (all : List (List ℕ)) → IsParsedSoFar all all [] 16 false
parsed_so_far_at_start all = record { within_limit = omega arith; so_far = result_without_earlier_probes (probes_within 16 all) }

probe_moved_to_earlier_probes : (bad : Bool) (ps : List Probe) (p : Probe) (r : Result (List Probe) LineFault) → with_earlier_probes bad ps (with_probe (Ok p) r) ≡ with_earlier_probes bad (ps ++ p ∷ []) r
probe_moved_to_earlier_probes false ps p (Ok qs) = ap Ok (sym (append_assoc ps (p ∷ []) qs))
probe_moved_to_earlier_probes true ps p (Ok qs) = refl
probe_moved_to_earlier_probes false ps p (Err fault) = refl
probe_moved_to_earlier_probes true ps p (Err fault) = refl

bad_number_moved_to_flag : (bad : Bool) (ps : List Probe) (r : Result (List Probe) LineFault) → with_earlier_probes bad ps (with_probe (Err BadNumber) r) ≡ with_earlier_probes true ps r
bad_number_moved_to_flag false ps (Ok qs) = refl
bad_number_moved_to_flag true ps (Ok qs) = refl
bad_number_moved_to_flag false ps (Err fault) = refl
bad_number_moved_to_flag true ps (Err fault) = refl

-- Holds if the error of a word takes precedence over the errors of all later words.
abbrev pub TakesPrecedence : LineFault → Type 0
TakesPrecedence fault = (r : Result (List Probe) LineFault) → with_probe (Err fault) r ≡ Err fault

error_unchanged_by_earlier_probes : (bad : Bool) (ps : List Probe) (fault : LineFault) → with_earlier_probes bad ps (Err fault) ≡ Err fault
error_unchanged_by_earlier_probes false ps fault = refl
error_unchanged_by_earlier_probes true ps fault = refl

-- the result of parsing all words follows from the results for the next word and for the words
-- after it
probes_from_next_word : (all rest words : List (List ℕ)) (ps : List Probe) (room less : ℕ) (bad : Bool) (word : List ℕ) → room ≡ suc less → rest ≡ word ∷ words → IsParsedSoFar all rest ps room bad → probes_within 16 all ≡ with_earlier_probes bad ps (with_probe (probe_of word) (probes_within less words))
probes_from_next_word all rest words ps room less bad word e cut r =
    r.so_far ∙ ap (λ ws. with_earlier_probes bad ps (probes_within room ws)) cut ∙ ap (λ m. with_earlier_probes bad ps (probes_within m (word ∷ words))) e

-- the invariant still holds after a word that is a place
pub parsed_so_far_after_place : (all rest words : List (List ℕ)) (ps qs : List Probe) (room less : ℕ) (bad : Bool) (word : List ℕ) (p : Probe) → room ≡ suc less → rest ≡ word ∷ words → probe_of word ≡ Ok p → qs ≡ ps ++ p ∷ [] → IsParsedSoFar all rest ps room bad → IsParsedSoFar all words qs less bad
parsed_so_far_after_place all rest words ps qs room less bad word p e cut read is r =
    let len : length qs ≡ length ps + 1 = ap length is ∙ length-append ps (p ∷ []) in
    let within_limit = r.within_limit in
    record {
      within_limit = omega arith;
      so_far = probes_from_next_word all rest words ps room less bad word e cut r
          ∙ ap (λ o. with_earlier_probes bad ps (with_probe o (probes_within less words))) read
          ∙ probe_moved_to_earlier_probes bad ps p (probes_within less words)
          ∙ ap (λ v. with_earlier_probes bad v (probes_within less words)) (sym is);
    }

-- the invariant still holds after a word with a bad number
pub parsed_so_far_after_bad_number : (all rest words : List (List ℕ)) (ps : List Probe) (room less : ℕ) (bad : Bool) (word : List ℕ) → room ≡ suc less → rest ≡ word ∷ words → probe_of word ≡ Err BadNumber → IsParsedSoFar all rest ps room bad → IsParsedSoFar all words ps less true
parsed_so_far_after_bad_number all rest words ps room less bad word e cut read r =
    let within_limit = r.within_limit in
    record {
      within_limit = omega arith;
      so_far = probes_from_next_word all rest words ps room less bad word e cut r
          ∙ ap (λ o. with_earlier_probes bad ps (with_probe o (probes_within less words))) read
          ∙ bad_number_moved_to_flag bad ps (probes_within less words);
    }

-- if the next word has an error that takes precedence, parsing all words gives this error
pub error_of_next_word_is_result : (all rest words : List (List ℕ)) (ps : List Probe) (room less : ℕ) (bad : Bool) (word : List ℕ) (fault : LineFault) → TakesPrecedence fault → room ≡ suc less → rest ≡ word ∷ words → probe_of word ≡ Err fault → IsParsedSoFar all rest ps room bad → probes_within 16 all ≡ Err fault
error_of_next_word_is_result all rest words ps room less bad word fault d e cut read r =
    probes_from_next_word all rest words ps room less bad word e cut r
    ∙ ap (λ o. with_earlier_probes bad ps (with_probe o (probes_within less words))) read
    ∙ ap (with_earlier_probes bad ps) (d (probes_within less words))
    ∙ error_unchanged_by_earlier_probes bad ps fault

-- if another word follows but there is no room for its probe, parsing all words gives the error
-- `NotACommand`
pub too_many_words_rejected : (all rest words : List (List ℕ)) (ps : List Probe) (room : ℕ) (bad : Bool) (word : List ℕ) → room ≡ 0 → rest ≡ word ∷ words → IsParsedSoFar all rest ps room bad → probes_within 16 all ≡ Err NotACommand
too_many_words_rejected all rest words ps room bad word e cut r =
    r.so_far ∙ ap (λ ws. with_earlier_probes bad ps (probes_within room ws)) cut ∙ ap (λ m. with_earlier_probes bad ps (probes_within m (word ∷ words))) e ∙ error_unchanged_by_earlier_probes bad ps NotACommand

probes_of_no_words : (room : ℕ) → probes_within room [] ≡ Ok []
probes_of_no_words zero = refl
probes_of_no_words (suc room) = refl

append-nil : (ps : List Probe) → ps ++ [] ≡ ps
append-nil [] = refl
append-nil (p ∷ ps) = ap (λ (l : List Probe). p ∷ l) (append-nil ps)

-- if no word is left, parsing all words gives the probes parsed so far, or `BadNumber`
probes_if_no_word_is_left : (all rest : List (List ℕ)) (ps : List Probe) (room : ℕ) (bad : Bool) → rest ≡ [] → IsParsedSoFar all rest ps room bad → probes_within 16 all ≡ with_earlier_probes bad ps (Ok [])
probes_if_no_word_is_left all rest ps room bad none r =
    r.so_far ∙ ap (λ ws. with_earlier_probes bad ps (probes_within room ws)) none ∙ ap (with_earlier_probes bad ps) (probes_of_no_words room)

pub probes_if_all_words_parsed : (all rest : List (List ℕ)) (ps : List Probe) (room : ℕ) (bad : Bool) → bad ≡ false → rest ≡ [] → IsParsedSoFar all rest ps room bad → probes_within 16 all ≡ Ok ps
probes_if_all_words_parsed all rest ps room bad good none r =
    probes_if_no_word_is_left all rest ps room bad none r ∙ ap (λ b. with_earlier_probes b ps (Ok [])) good ∙ ap Ok (append-nil ps)

pub bad_number_if_all_words_parsed : (all rest : List (List ℕ)) (ps : List Probe) (room : ℕ) (bad : Bool) → bad ≡ true → rest ≡ [] → IsParsedSoFar all rest ps room bad → probes_within 16 all ≡ Err BadNumber
bad_number_if_all_words_parsed all rest ps room bad e none r =
    probes_if_no_word_is_left all rest ps room bad none r ∙ ap (λ b. with_earlier_probes b ps (Ok [])) e

-- every error except `BadNumber` takes precedence over the errors of later words
pub other_errors_take_precedence : (fault : LineFault) → is_bad_number fault ≡ false → TakesPrecedence fault
other_errors_take_precedence fault e (Ok ps) = refl
other_errors_take_precedence fault e (Err other) = rw e refl

pub equals_bad_number : (fault : LineFault) → is_bad_number fault ≡ true → fault ≡ BadNumber
equals_bad_number BadNumber e = refl
equals_bad_number NotACommand e = absurd (cc)
equals_bad_number LineTooLong e = absurd (cc)
equals_bad_number NotAscii e = absurd (cc)
