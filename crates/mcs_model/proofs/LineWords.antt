-- The words of a line, read from the front of the line one after another.
use Rattle.std.proofs.Common.{◌≡◌, ℕ, zero, suc, ◌+◌, ◌<◌, List, [], ◌∷◌, ◌++◌, Bool, true, false, length, filter, nat_lt, take, drop, get_or, ap, sym, ◌∙◌, refl, subst, arith, rules, take-append-drop}
use Rattle.std.proofs.lemmas.List.{drop_more, append-nil}
use Rattle.std.specs.List.{slice_split}
use Rattle.mcs_model.specs.TextLines.{is_blank, words_of}
use Rattle.mcs_model.specs.Cutting.{StartsWithoutBlank, IsAtPieceEnd, IsCompletePiece, HasNoSeparator}
use Rattle.mcs_model.proofs.Cutting.{prepend_to_first, split-piece_and_rest, split-leading_separator, split-empty_list}

-- true if a piece is a word: it is not empty
abbrev pub is_word_piece : List ℕ → Bool
is_word_piece w = nat_lt 0 (length w)

empty_piece-skipped : (ps : List (List ℕ)) → filter is_word_piece ([] ∷ ps) ≡ filter is_word_piece ps
empty_piece-skipped ps = refl

-- a blank before a line does not change the words of the line
pub words_of-blank : (b : ℕ) (bs : List ℕ) → is_blank b ≡ true → words_of (b ∷ bs) ≡ words_of bs
unfolding words_of
words_of-blank b bs e = ap (filter is_word_piece) (split-leading_separator is_blank b bs e) ∙ empty_piece-skipped (slice_split is_blank bs)

-- a list that is empty or begins with a blank has an empty first piece
empty_piece-first : (rest : List ℕ) → IsAtPieceEnd is_blank rest → (ps : List (List ℕ)) × (slice_split is_blank rest ≡ [] ∷ ps)
empty_piece-first [] h = ([], split-empty_list is_blank)
empty_piece-first (b ∷ bs) h = (slice_split is_blank bs, split-leading_separator is_blank b bs h)

split-word : (word rest : List ℕ) (ps : List (List ℕ)) → HasNoSeparator is_blank word → slice_split is_blank rest ≡ [] ∷ ps → slice_split is_blank (word ++ rest) ≡ word ∷ ps
split-word word rest ps h e = split-piece_and_rest is_blank word rest h ∙ ap (prepend_to_first word) e ∙ ap (λ v. v ∷ ps) (append-nil word)

nonempty_first-kept_by_filter : (b : ℕ) (word : List ℕ) (ps : List (List ℕ)) → nat_lt 0 (length (b ∷ word)) ≡ true → filter is_word_piece ((b ∷ word) ∷ ps) ≡ (b ∷ word) ∷ filter is_word_piece ps
nonempty_first-kept_by_filter b word ps e = rw e refl

length-positive : (b : ℕ) (word : List ℕ) → nat_lt 0 (length (b ∷ word)) ≡ true
length-positive b word = search rules

-- `words_of` gives the word at the front of a line first, and then the words of the rest
pub words_of-word_and_rest : (b : ℕ) (word rest : List ℕ) → IsCompletePiece is_blank (b ∷ word) rest → words_of ((b ∷ word) ++ rest) ≡ (b ∷ word) ∷ words_of rest
unfolding words_of
words_of-word_and_rest b word rest h =
    let first = empty_piece-first rest h.1 in
    ap (filter is_word_piece) (split-word (b ∷ word) rest (first.0) (h.0) (first.1))
    ∙ nonempty_first-kept_by_filter b word (first.0) (length-positive b word)
    ∙ ap (λ v. (b ∷ word) ∷ v) (sym (ap (filter is_word_piece) (first.1) ∙ empty_piece-skipped (first.0)))

is_blank-contradiction : (b : ℕ) → is_blank b ≡ false → is_blank b ≡ true → ⊥
is_blank-contradiction b h k = cc (h, k)

-- if the first `n` bytes of a line are a complete word, `words_of` gives this word first, and then
-- the words of the rest
pub words_of-word_at_front : (line : List ℕ) (n : ℕ) → 0 < length line → StartsWithoutBlank line → IsCompletePiece is_blank (take n line) (drop n line) → words_of line ≡ take n line ∷ words_of (drop n line)
words_of-word_at_front [] n some begins ends = absurd (omega arith)
words_of-word_at_front (b ∷ bs) zero some begins ends = absurd (is_blank-contradiction b begins (ends.1))
words_of-word_at_front (b ∷ bs) (suc n) some begins ends =
    ap words_of (sym (take-append-drop (suc n) (b ∷ bs))) ∙ words_of-word_and_rest b (take n bs) (drop n bs) ends

-- if byte `n` of a line is a blank, the rest of the line, starting at byte `n`, begins with a blank
pub at_piece_end-at_blank : (line : List ℕ) (n : ℕ) → n < length line → is_blank (get_or line n 0) ≡ true → IsAtPieceEnd is_blank (drop n line)
at_piece_end-at_blank [] n inside e = absurd (omega arith)
at_piece_end-at_blank (b ∷ bs) zero inside e = e
at_piece_end-at_blank (b ∷ bs) (suc n) inside e = at_piece_end-at_blank bs n (omega arith) e

pub at_piece_end-at_line_end : (line : List ℕ) → IsAtPieceEnd is_blank (drop (length line) line)
at_piece_end-at_line_end [] = tt
at_piece_end-at_line_end (b ∷ bs) = at_piece_end-at_line_end bs

pub words_of-past_blank : (line : List ℕ) (at : ℕ) → at < length line → is_blank (get_or line at 0) ≡ true → words_of (drop (at + 1) line) ≡ words_of (drop at line)
words_of-past_blank line at inside e = sym (ap words_of (drop_more line at 0 inside) ∙ words_of-blank (get_or line at 0) (drop (at + 1) line) e)

pub starts_without_blank-at_nonblank : (line : List ℕ) (at : ℕ) → at < length line → is_blank (get_or line at 0) ≡ false → StartsWithoutBlank (drop at line)
starts_without_blank-at_nonblank line at inside e = subst StartsWithoutBlank (sym (drop_more line at 0 inside)) e

pub no_words : (line : List ℕ) → length line ≡ 0 → words_of line ≡ []
unfolding words_of
no_words [] e = ap (filter is_word_piece) (split-empty_list is_blank)
no_words (b ∷ bs) e = absurd (omega (arith, e))
