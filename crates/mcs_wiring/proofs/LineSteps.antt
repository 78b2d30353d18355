-- Lemmas for the loops that search a text line by line.
use Rattle.std.proofs.Common.{◌≡◌, ◌∙◌, ◌++◌, ℕ, suc, ◌+◌, ◌<◌, Bool, true, false, cond, not, eqb, if◌then◌else◌, List, [], ◌∷◌, length, Option, Some, None, Bor, MatchOption, refl, sym, ap, arith}
use Rattle.std.specs.List.{position_or_len, slice_split, before_first, after_first, onto_first}
use Rattle.std.proofs.lemmas.List.{length-drop}
use Rattle.std.proofs.lemmas.List.Splits.{slice_split_first, length-slice_split}
use Rattle.std.proofs.lemmas.Str.Pattern.{split_once_first, IsSplitOnceResult}
use Rattle.mcs_model.specs.TextLines.{as_line, is_line_feed}
use Rattle.mcs_wiring.specs.Parts.{line_from, line_after}

one_line_without_line_feed : (text : List ℕ) → position_or_len is_line_feed text ≡ length text → slice_split is_line_feed text ≡ text ∷ []
one_line_without_line_feed [] e = refl
one_line_without_line_feed (b ∷ text) e =
    let n : ℕ = position_or_len is_line_feed text in
    let Q : Bool → Type 0 = λ t. cond (not t) (1 + n) 0 ≡ suc (length text) → cond t ([] ∷ slice_split is_line_feed text) (onto_first b (slice_split is_line_feed text)) ≡ (b ∷ text) ∷ [] in
    let by_byte : Q (eqb b 10) = elim (eqb b 10) as Q [
      | true ↦ λ h. absurd (omega (arith, h))
      | false ↦ λ h. ap (onto_first b) (one_line_without_line_feed text (omega (arith, h)))
    ] in
    by_byte e

-- `split_once` at a line feed returns the first line and the text after it. The lines of the whole
-- text are the first line, followed by the lines of the text after it.
pub first_line_splits_off : (text : List ℕ) (r : Option (Bor (List ℕ) × Bor (List ℕ))) → IsSplitOnceResult 10 text r
    → MatchOption r (slice_split is_line_feed text ≡ text ∷ []) (λ x. (slice_split is_line_feed text ≡ x.0.now ∷ slice_split is_line_feed x.1.now) × (length x.1.now < length text))
first_line_splits_off text None h = one_line_without_line_feed text (split_once_first 10 text None h (omega arith))
first_line_splits_off text (Some x) h =
    let m = split_once_first 10 text (Some x) h (omega arith) in (
      slice_split_first is_line_feed text 0 m.0 ∙ (ap (λ (l : List ℕ). l ∷ slice_split is_line_feed (after_first is_line_feed text)) (sym m.1) ∙ ap (λ (l : List ℕ). x.0.now ∷ slice_split is_line_feed l) (sym m.2)),
      omega (arith, ap length m.2 ∙ length-drop (position_or_len is_line_feed text + 1) text, m.0),
    )

text_has_a_line : (text : List ℕ) → 0 < length (slice_split is_line_feed text)
text_has_a_line text = omega (arith, length-slice_split is_line_feed text)

line_from_of_line_before_others : (holds : List ℕ → Bool) (n : ℕ) (before line : List ℕ) (ls : List (List ℕ)) → 0 < length ls → line_from holds n before (line ∷ ls) ≡ (if holds (before ++ as_line line) then n else line_from holds (n + 1) (before ++ as_line line) ls)
line_from_of_line_before_others holds n before line [] some = absurd (omega (arith, some))
line_from_of_line_before_others holds n before line (next ∷ ls) some = refl

line_after_of_line_before_others : (holds : List ℕ → Bool) (n found : ℕ) (before line : List ℕ) (ls : List (List ℕ)) → 0 < length ls → line_after holds n found before (line ∷ ls) ≡ line_after holds (n + 1) (if holds (before ++ as_line line) then n + 1 else found) (before ++ as_line line) ls
line_after_of_line_before_others holds n found before line [] some = absurd (omega (arith, some))
line_after_of_line_before_others holds n found before line (next ∷ ls) some = refl

-- `line_from` gives the number `n` of the first line of `rest` if `holds` is true of the text up to
-- the end of that line. Otherwise it gives the same number as for the lines after that line.
pub line_from_of_split_text : (holds : List ℕ → Bool) (n : ℕ) (before rest line after more : List ℕ) → slice_split is_line_feed rest ≡ line ∷ slice_split is_line_feed after → more ≡ before ++ as_line line
    → line_from holds n before (slice_split is_line_feed rest) ≡ (if holds more then n else line_from holds (n + 1) more (slice_split is_line_feed after))
line_from_of_split_text holds n before rest line after more cut is =
    ap (line_from holds n before) cut ∙ (line_from_of_line_before_others holds n before line (slice_split is_line_feed after) (text_has_a_line after)
    ∙ ap (λ (m : List ℕ). if holds m then n else line_from holds (n + 1) m (slice_split is_line_feed after)) (sym is))

pub line_after_of_split_text : (holds : List ℕ → Bool) (n found : ℕ) (before rest line after more : List ℕ) → slice_split is_line_feed rest ≡ line ∷ slice_split is_line_feed after → more ≡ before ++ as_line line
    → line_after holds n found before (slice_split is_line_feed rest) ≡ line_after holds (n + 1) (if holds more then n + 1 else found) more (slice_split is_line_feed after)
line_after_of_split_text holds n found before rest line after more cut is =
    ap (line_after holds n found before) cut ∙ (line_after_of_line_before_others holds n found before line (slice_split is_line_feed after) (text_has_a_line after)
    ∙ ap (λ (m : List ℕ). line_after holds (n + 1) (if holds m then n + 1 else found) m (slice_split is_line_feed after)) (sym is))

-- the invariant of a loop that computes `line_from` remains true after a line for which `holds` is
-- false
pub line_from_kept_if_test_false : (holds : List ℕ → Bool) (n result : ℕ) (before rest line after more : List ℕ) (b : Bool) → slice_split is_line_feed rest ≡ line ∷ slice_split is_line_feed after → more ≡ before ++ as_line line → b ≡ holds more → b ≡ false
    → line_from holds n before (slice_split is_line_feed rest) ≡ result → line_from holds (n + 1) more (slice_split is_line_feed after) ≡ result
line_from_kept_if_test_false holds n result before rest line after more b cut is test fails inv =
    sym (line_from_of_split_text holds n before rest line after more cut is ∙ ap (λ t. if t then n else line_from holds (n + 1) more (slice_split is_line_feed after)) (sym test ∙ fails)) ∙ inv

pub line_after_kept_if_test_true : (holds : List ℕ → Bool) (n found whole : ℕ) (before rest line after more : List ℕ) (b : Bool) → slice_split is_line_feed rest ≡ line ∷ slice_split is_line_feed after → more ≡ before ++ as_line line → b ≡ holds more → b ≡ true
    → line_after holds n found before (slice_split is_line_feed rest) ≡ whole → line_after holds (n + 1) (n + 1) more (slice_split is_line_feed after) ≡ whole
line_after_kept_if_test_true holds n found whole before rest line after more b cut is test held inv =
    sym (line_after_of_split_text holds n found before rest line after more cut is ∙ ap (λ t. line_after holds (n + 1) (if t then n + 1 else found) more (slice_split is_line_feed after)) (sym test ∙ held)) ∙ inv

pub line_after_kept_if_test_false : (holds : List ℕ → Bool) (n found whole : ℕ) (before rest line after more : List ℕ) (b : Bool) → slice_split is_line_feed rest ≡ line ∷ slice_split is_line_feed after → more ≡ before ++ as_line line → b ≡ holds more → b ≡ false
    → line_after holds n found before (slice_split is_line_feed rest) ≡ whole → line_after holds (n + 1) found more (slice_split is_line_feed after) ≡ whole
line_after_kept_if_test_false holds n found whole before rest line after more b cut is test fails inv =
    sym (line_after_of_split_text holds n found before rest line after more cut is ∙ ap (λ t. line_after holds (n + 1) (if t then n + 1 else found) more (slice_split is_line_feed after)) (sym test ∙ fails)) ∙ inv
