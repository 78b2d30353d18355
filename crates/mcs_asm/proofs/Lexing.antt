-- Lemmas about the first token of a line and the tokens after it.
use Rattle.std.proofs.Common.{◌≡◌, ℕ, suc, ◌+◌, ◌-◌, ◌<◌, ◌≤◌, Bool, true, false, cond, eqb, List, [], ◌∷◌, ◌++◌, length, get_or, take, drop, refl, sym, ap, ◌≢◌, ◌∙◌, append_assoc, arith}
use Rattle.std.specs.List.{prefix_len}
use Rattle.std.proofs.lemmas.Bool.{ne_eqb}
use Rattle.std.proofs.lemmas.List.{append-nil, length-take, take_all}
use Rattle.mcs_source.specs.Lexical.{Token, Word, is_word_byte, symbol, tokens}
use Rattle.mcs_source.proofs.Tokens.{tokens_byte_by_byte, blank_is_no_word_byte, tokens_after, word_token_before}
use Rattle.mcs_model.specs.TextLines.{is_blank}

-- the tokens of the bytes after a word; the first of these bytes is not part of a word
abbrev pub tokens_from_end_of_word : List ℕ → List Token
tokens_from_end_of_word [] = []
tokens_from_end_of_word (b ∷ bytes) = cond (is_blank b) (tokens_after [] bytes) (cond (eqb b 59) [] (symbol b ∷ tokens_after [] bytes))

pub tokens_after_word_and_its_other_bytes : (word bytes : List ℕ) → tokens_after word bytes ≡ word_token_before (word ++ take (prefix_len is_word_byte bytes) bytes) (tokens_from_end_of_word (drop (prefix_len is_word_byte bytes) bytes))
unfolding tokens_after
tokens_after_word_and_its_other_bytes word [] = ap (λ w. word_token_before w []) (sym (append-nil word))
tokens_after_word_and_its_other_bytes word (b ∷ bytes) =
    let n : ℕ = prefix_len is_word_byte bytes in
    let one_plus : 1 + n ≡ suc n = omega arith in
    let Q : Bool → Type 0 = λ t. cond t (tokens_after (word ++ b ∷ []) bytes) (word_token_before word (tokens_from_end_of_word (b ∷ bytes))) ≡ word_token_before (word ++ take (cond t (1 + n) 0) (b ∷ bytes)) (tokens_from_end_of_word (drop (cond t (1 + n) 0) (b ∷ bytes))) in
    elim (is_word_byte b) as Q [
      | true ↦ tokens_after_word_and_its_other_bytes (word ++ b ∷ []) bytes ∙ rw (one_plus, append_assoc word (b ∷ []) (take n bytes)) refl
      | false ↦ rw (append-nil word) refl
    ]

tokens_after_nothing_without_blanks : (bytes : List ℕ) → tokens_after [] bytes ≡ tokens_after [] (drop (prefix_len is_blank bytes) bytes)
unfolding tokens_after
tokens_after_nothing_without_blanks [] = refl
tokens_after_nothing_without_blanks (b ∷ bytes) =
    let n : ℕ = prefix_len is_blank bytes in
    let one_plus : 1 + n ≡ suc n = omega arith in
    let Q : Bool → Type 0 = λ t. is_blank b ≡ t → tokens_after [] (b ∷ bytes) ≡ tokens_after [] (drop (cond t (1 + n) 0) (b ∷ bytes)) in
    (elim (is_blank b) as Q [
      | true ↦ λ yes. rw (blank_is_no_word_byte b yes, yes, one_plus) (tokens_after_nothing_without_blanks bytes)
      | false ↦ λ no. refl
    ]) refl

pub tokens_without_leading_blanks : (bytes : List ℕ) → tokens bytes ≡ tokens (drop (prefix_len is_blank bytes) bytes)
tokens_without_leading_blanks bytes = tokens_byte_by_byte bytes ∙ tokens_after_nothing_without_blanks bytes ∙ sym (tokens_byte_by_byte (drop (prefix_len is_blank bytes) bytes))

-- If the bytes do not begin with a word, `tokens_from_end_of_word` gives their tokens.
tokens_without_word : (bytes : List ℕ) → prefix_len is_word_byte bytes ≡ 0 → tokens_after [] bytes ≡ tokens_from_end_of_word bytes
tokens_without_word bytes e = tokens_after_word_and_its_other_bytes [] bytes ∙ rw e refl

pub test_false_for_first_if_no_prefix : (p : ℕ → Bool) (x : ℕ) (xs : List ℕ) → prefix_len p (x ∷ xs) ≡ 0 → p x ≡ false
test_false_for_first_if_no_prefix p x xs e =
    let Q : Bool → Type 0 = λ t. cond t (1 + prefix_len p xs) 0 ≡ 0 → t ≡ false in
    (elim (p x) as Q [ true ↦ λ h. absurd (omega arith) | false ↦ λ h. refl ]) e

pub no_prefix_after_prefix : (p : ℕ → Bool) (xs : List ℕ) → prefix_len p (drop (prefix_len p xs) xs) ≡ 0
no_prefix_after_prefix p [] = refl
no_prefix_after_prefix p (x ∷ xs) =
    let n : ℕ = prefix_len p xs in
    let one_plus : 1 + n ≡ suc n = omega arith in
    let Q : Bool → Type 0 = λ t. p x ≡ t → prefix_len p (drop (cond t (1 + n) 0) (x ∷ xs)) ≡ 0 in
    (elim (p x) as Q [
      | true ↦ λ yes. rw one_plus (no_prefix_after_prefix p xs)
      | false ↦ λ no. rw no refl
    ]) refl

-- For the bytes after a word, `tokens_from_end_of_word` gives their tokens.
end_of_word_starts_new_tokens : (bytes : List ℕ) → tokens_from_end_of_word (drop (prefix_len is_word_byte bytes) bytes) ≡ tokens_after [] (drop (prefix_len is_word_byte bytes) bytes)
end_of_word_starts_new_tokens bytes = sym (tokens_without_word (drop (prefix_len is_word_byte bytes) bytes) (no_prefix_after_prefix is_word_byte bytes))

-- If the bytes begin with a word, this word is their first token.
pub tokens_of_leading_word : (word rest bytes : List ℕ) (n : ℕ) → n ≡ prefix_len is_word_byte bytes → 0 < n → word ≡ take n bytes → rest ≡ drop n bytes → n ≤ length bytes → tokens bytes ≡ Word word ∷ tokens rest
tokens_of_leading_word [] rest bytes n len some front back within = absurd (omega (arith, ap length front, length-take n bytes))
tokens_of_leading_word (b ∷ word) rest bytes n len some front back within =
    let front' : take (prefix_len is_word_byte bytes) bytes ≡ b ∷ word = rw (← len) (sym front) in
    let read : tokens_after [] bytes ≡ Word (b ∷ word) ∷ tokens_after [] rest = tokens_after_word_and_its_other_bytes [] bytes ∙ rw (front', end_of_word_starts_new_tokens bytes, ← len, ← back) refl in
    tokens_byte_by_byte bytes ∙ read ∙ ap (λ (ts : List Token). Word (b ∷ word) ∷ ts) (sym (tokens_byte_by_byte rest))

pub no_tokens_of_empty_line : (bytes : List ℕ) → length bytes ≡ 0 → tokens bytes ≡ []
unfolding tokens_after
no_tokens_of_empty_line [] e = tokens_byte_by_byte []
no_tokens_of_empty_line (b ∷ bytes) e = absurd (omega (arith, e))

-- A comment has no tokens.
pub no_tokens_of_comment : (bytes : List ℕ) → 1 ≤ length bytes → get_or bytes 0 0 ≡ 59 → tokens bytes ≡ []
unfolding tokens_after
no_tokens_of_comment [] some e = absurd (omega (arith, some))
no_tokens_of_comment (b ∷ bytes) some e = tokens_byte_by_byte (b ∷ bytes) ∙ rw e refl

-- If the first byte is neither part of a word, nor a blank, nor the start of a comment, this byte
-- is the first token.
pub tokens_of_leading_symbol : (bytes : List ℕ) → 1 ≤ length bytes → get_or bytes 0 0 ≢ 59 → prefix_len is_word_byte bytes ≡ 0 → prefix_len is_blank bytes ≡ 0 → tokens bytes ≡ symbol (get_or bytes 0 0) ∷ tokens (take (length bytes - 1) (drop 1 bytes))
tokens_of_leading_symbol [] some other no_w no_b = absurd (omega (arith, some))
tokens_of_leading_symbol (b ∷ rest) some other no_w no_b =
    let all : take (length (b ∷ rest) - 1) rest ≡ rest = take_all (length (b ∷ rest) - 1) rest (omega arith) in
    let read : tokens_after [] (b ∷ rest) ≡ symbol b ∷ tokens_after [] rest = tokens_without_word (b ∷ rest) no_w ∙ rw (test_false_for_first_if_no_prefix is_blank b rest no_b, ne_eqb b 59 other) refl in
    tokens_byte_by_byte (b ∷ rest) ∙ read ∙ ap (λ (ts : List Token). symbol b ∷ ts) (sym (tokens_byte_by_byte rest) ∙ ap tokens (sym all))

pub tokens_of_trimmed_line : (line bytes : List ℕ) (n : ℕ) → n ≡ prefix_len is_blank line → bytes ≡ drop n line → tokens bytes ≡ tokens line
tokens_of_trimmed_line line bytes n len back = rw (back, len) (sym (tokens_without_leading_blanks line))

pub no_leading_blanks_in_trimmed_line : (line bytes : List ℕ) (n : ℕ) → n ≡ prefix_len is_blank line → bytes ≡ drop n line → prefix_len is_blank bytes ≡ 0
no_leading_blanks_in_trimmed_line line bytes n len back = rw (back, len) (no_prefix_after_prefix is_blank line)

pub ruleset trimmed_rules = (tokens_of_trimmed_line, no_leading_blanks_in_trimmed_line)

pub ruleset symbol_rules = (no_tokens_of_empty_line, no_tokens_of_comment, tokens_of_leading_symbol)
