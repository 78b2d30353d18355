-- The tokens of a line, computed byte by byte.
use Rattle.std.proofs.Common.{◌≡◌, ◌⊎◌, ◌+◌, ◌==◌, if◌then◌else◌, suc, ℕ, Bool, true, false, cond, not, ◌||◌, eqb, List, [], ◌∷◌, ◌++◌, map, refl, sym, ap, ◌∙◌, append_assoc, arith, inl, inr}
use Rattle.std.specs.List.{before_first, flat_map, list_all, prefix_len}
use Rattle.std.proofs.lemmas.Bool.{and_parts, eqb-true, true≢false}
use Rattle.mcs_model.specs.TextLines.{is_blank, words_of}
use Rattle.mcs_model.specs.Cutting.{IsAtPieceEnd, HasNoSeparator}
use Rattle.mcs_model.proofs.LineWords.{words_of-blank, words_of-word_and_rest}
use Rattle.mcs_source.specs.Lexical.{Token, Word, is_word_byte, with_symbol_spaced, symbol, token_of, tokens}

-- a word token followed by the given tokens, or only these tokens if the word is empty
abbrev pub word_token_before : List ℕ → List Token → List Token
word_token_before [] more = more
word_token_before (b ∷ word) more = Word (b ∷ word) ∷ more

-- the tokens of `word` followed by the given bytes; these bytes can continue the word
unfoldable pub tokens_after : List ℕ → List ℕ → List Token
tokens_after word [] = word_token_before word []
tokens_after word (b ∷ bytes) =
    if is_word_byte b then tokens_after (word ++ b ∷ []) bytes else
    word_token_before word
    (if is_blank b then tokens_after [] bytes else
    if b == 59 then [] else symbol b ∷ tokens_after [] bytes)

-- the bytes of a line before its comment, with spaces around each symbol
abbrev pub spaced_line : List ℕ → List ℕ
spaced_line line = flat_map with_symbol_spaced (before_first (λ b. eqb b 59) line)

-- ---- a word

space_or_tab_is_no_word_byte : (b : ℕ) → (b ≡ 32) ⊎ (b ≡ 9) → is_word_byte b ≡ false
space_or_tab_is_no_word_byte b (inl e) = rw e refl
space_or_tab_is_no_word_byte b (inr e) = rw e refl

space_or_tab_if_test_true : (s t : Bool) (b : ℕ) → eqb b 32 ≡ s → eqb b 9 ≡ t → (s || t) ≡ true → (b ≡ 32) ⊎ (b ≡ 9)
space_or_tab_if_test_true true t b p q e = inl (eqb-true _ _ p)
space_or_tab_if_test_true false true b p q e = inr (eqb-true _ _ q)
space_or_tab_if_test_true false false b p q e = absurd cc

pub blank_is_no_word_byte : (b : ℕ) → is_blank b ≡ true → is_word_byte b ≡ false
blank_is_no_word_byte b e = space_or_tab_is_no_word_byte b (space_or_tab_if_test_true (eqb b 32) (eqb b 9) b refl refl e)

word_byte_is_no_blank : (b : ℕ) → is_word_byte b ≡ true → is_blank b ≡ false
word_byte_is_no_blank b e =
    let Q : Bool → Type 0 = λ t. is_blank b ≡ t → t ≡ false in
    (elim (is_blank b) as Q [ true ↦ λ yes. absurd (true≢false (sym e ∙ blank_is_no_word_byte b yes)) | false ↦ λ no. refl ]) refl

word_contains_no_blanks : (word : List ℕ) → list_all is_word_byte word ≡ true → HasNoSeparator is_blank word
word_contains_no_blanks [] all = tt
word_contains_no_blanks (b ∷ word) all =
    let (here, more) = and_parts (is_word_byte b) (list_all is_word_byte word) all in
    (word_byte_is_no_blank b here, word_contains_no_blanks word more)

all_word_bytes_after_append : (word : List ℕ) (b : ℕ) → list_all is_word_byte word ≡ true → is_word_byte b ≡ true → list_all is_word_byte (word ++ b ∷ []) ≡ true
all_word_bytes_after_append [] b all e = rw e refl
all_word_bytes_after_append (x ∷ word) b all e =
    let (here, more) = and_parts (is_word_byte x) (list_all is_word_byte word) all in
    rw here (all_word_bytes_after_append word b more e)

-- the tokens of a word followed by a blank or by nothing: the word, then the tokens of the rest
tokens_of_ended_word : (word rest : List ℕ) → list_all is_word_byte word ≡ true → IsAtPieceEnd is_blank rest → map token_of (words_of (word ++ rest)) ≡ word_token_before word (map token_of (words_of rest))
tokens_of_ended_word [] rest all ends = refl
tokens_of_ended_word (b ∷ word) rest all ends =
    let (here, more) = and_parts (is_word_byte b) (list_all is_word_byte word) all in
    ap (map token_of) (words_of-word_and_rest b word rest (word_contains_no_blanks (b ∷ word) all, ends))
    ∙ ap (λ (t : Token). t ∷ map token_of (words_of rest)) (ap (λ v. cond v (Word (b ∷ word)) (symbol b)) here)

no_words : words_of [] ≡ []
unfolding words_of
no_words = refl

-- ---- a line

-- a byte `;` begins a comment, and `spaced_line` omits all bytes of a comment
spaced_line_of_comment : (b : ℕ) (bytes : List ℕ) → eqb b 59 ≡ true → spaced_line (b ∷ bytes) ≡ []
spaced_line_of_comment b bytes e = rw e refl

spaced_line_of_byte_before_others : (b : ℕ) (bytes : List ℕ) → eqb b 59 ≡ false → spaced_line (b ∷ bytes) ≡ with_symbol_spaced b ++ spaced_line bytes
spaced_line_of_byte_before_others b bytes e =
    let n : ℕ = prefix_len (λ x. not (eqb x 59)) bytes in
    let plus_one : 1 + n ≡ suc n = omega arith in
    rw (e, plus_one) refl

tokens_of_spaced_symbol : (b : ℕ) (rest : List ℕ) → is_word_byte b ≡ false → is_blank b ≡ false → map token_of (words_of (32 ∷ b ∷ 32 ∷ rest)) ≡ symbol b ∷ map token_of (words_of rest)
tokens_of_spaced_symbol b rest w k =
    ap (map token_of) (words_of-blank 32 (b ∷ 32 ∷ rest) refl ∙ words_of-word_and_rest b [] (32 ∷ rest) ((k, tt), refl) ∙ ap (λ ws. (b ∷ []) ∷ ws) (words_of-blank 32 rest refl))
    ∙ ap (λ (t : Token). t ∷ map token_of (words_of rest)) (ap (λ v. cond v (Word (b ∷ [])) (symbol b)) w)

tokens_of_word_before_spaced_line : (word bytes : List ℕ) → list_all is_word_byte word ≡ true → map token_of (words_of (word ++ spaced_line bytes)) ≡ tokens_after word bytes
unfolding tokens_after
tokens_of_word_before_spaced_line word [] all = tokens_of_ended_word word [] all tt ∙ ap (λ ws. word_token_before word (map token_of ws)) no_words
tokens_of_word_before_spaced_line word (b ∷ bytes) all =
    let Q : Bool → Bool → Bool → Type 0 = λ c w k. eqb b 59 ≡ c → is_word_byte b ≡ w → is_blank b ≡ k → map token_of (words_of (word ++ spaced_line (b ∷ bytes))) ≡ cond w (tokens_after (word ++ b ∷ []) bytes) (word_token_before word (cond k (tokens_after [] bytes) (cond c [] (symbol b ∷ tokens_after [] bytes)))) in
    (elim (eqb b 59) as (λ c. Q c (is_word_byte b) (is_blank b)) [
      | true ↦ λ ec ew ek.
          let is_semicolon : b ≡ 59 = eqb-true b 59 ec in
          ap (λ v. map token_of (words_of (word ++ v))) (spaced_line_of_comment b bytes ec) ∙ tokens_of_ended_word word [] all tt
          ∙ ap (λ ws. word_token_before word (map token_of ws)) no_words ∙ rw is_semicolon refl
      | false ↦ λ ec. (elim (is_word_byte b) as (λ w. is_word_byte b ≡ w → is_blank b ≡ is_blank b → map token_of (words_of (word ++ spaced_line (b ∷ bytes))) ≡ cond w (tokens_after (word ++ b ∷ []) bytes) (word_token_before word (cond (is_blank b) (tokens_after [] bytes) (symbol b ∷ tokens_after [] bytes)))) [
        | true ↦ λ ew ek.
            ap (λ v. map token_of (words_of (word ++ v))) (spaced_line_of_byte_before_others b bytes ec ∙ ap (λ v. v ++ spaced_line bytes) (ap (λ v. cond (v || is_blank b) (b ∷ []) (32 ∷ b ∷ 32 ∷ [])) ew))
            ∙ ap (λ v. map token_of (words_of v)) (sym (append_assoc word (b ∷ []) (spaced_line bytes)))
            ∙ tokens_of_word_before_spaced_line (word ++ b ∷ []) bytes (all_word_bytes_after_append word b all ew)
        | false ↦ λ ew ek. (elim (is_blank b) as (λ k. is_blank b ≡ k → map token_of (words_of (word ++ spaced_line (b ∷ bytes))) ≡ word_token_before word (cond k (tokens_after [] bytes) (symbol b ∷ tokens_after [] bytes))) [
          | true ↦ λ yes.
              ap (λ v. map token_of (words_of (word ++ v))) (spaced_line_of_byte_before_others b bytes ec ∙ ap (λ v. v ++ spaced_line bytes) (ap (λ v. cond (v || is_blank b) (b ∷ []) (32 ∷ b ∷ 32 ∷ [])) ew ∙ ap (λ v. cond v (b ∷ []) (32 ∷ b ∷ 32 ∷ [])) yes))
              ∙ tokens_of_ended_word word (b ∷ spaced_line bytes) all yes
              ∙ ap (λ ws. word_token_before word (map token_of ws)) (words_of-blank b (spaced_line bytes) yes)
              ∙ ap (word_token_before word) (tokens_of_word_before_spaced_line [] bytes refl)
          | false ↦ λ no.
              ap (λ v. map token_of (words_of (word ++ v))) (spaced_line_of_byte_before_others b bytes ec ∙ ap (λ v. v ++ spaced_line bytes) (ap (λ v. cond (v || is_blank b) (b ∷ []) (32 ∷ b ∷ 32 ∷ [])) ew ∙ ap (λ v. cond v (b ∷ []) (32 ∷ b ∷ 32 ∷ [])) no))
              ∙ tokens_of_ended_word word (32 ∷ b ∷ 32 ∷ spaced_line bytes) all refl
              ∙ ap (word_token_before word) (tokens_of_spaced_symbol b (spaced_line bytes) ew no ∙ ap (λ ts. symbol b ∷ ts) (tokens_of_word_before_spaced_line [] bytes refl))
        ]) refl
      ])
    ]) refl refl refl

pub tokens_byte_by_byte : (line : List ℕ) → tokens line ≡ tokens_after [] line
unfolding tokens
tokens_byte_by_byte line = tokens_of_word_before_spaced_line [] line refl
