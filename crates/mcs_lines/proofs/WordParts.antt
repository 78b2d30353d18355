-- Lemmas about the parts of a word, which are separated by dots.
use Rattle.std.proofs.Common.{◌≡◌, ℕ, ◌+◌, ◌<◌, ◌≤◌, List, [], ◌∷◌, ◌++◌, true, length, take, drop, get_or, ap, sym, ◌∙◌, subst, take-append-drop}
use Rattle.std.proofs.lemmas.List.{drop_more, append-nil, take_all}
use Rattle.mcs_lines.specs.declared.requests.Request.TheVariants.{Refused}
use Rattle.mcs_lines.specs.declared.requests.LineFault.TheVariants.{NotACommand}
use Rattle.mcs_lines.specs.ProbeWords.{probe_of, probe_parts, probe_of_whole_word}
use Rattle.mcs_lines.specs.Requests.{poke_of, poke_parts}
use Rattle.mcs_lines.specs.Words.{is_dot, parts_of_word}
use Rattle.mcs_model.specs.Cutting.{IsAtPieceEnd, IsCompletePiece, HasNoSeparator}
use Rattle.mcs_model.proofs.Cutting.{prepend_to_first, first_piece_of, split-piece_and_rest, split-leading_separator, split-empty_list}

-- a word without a dot has one part, the whole word
parts_of_word_without_dot : (word : List ℕ) → HasNoSeparator is_dot word → parts_of_word word ≡ word ∷ []
unfolding parts_of_word
parts_of_word_without_dot word h =
    ap parts_of_word (sym (append-nil word)) ∙ split-piece_and_rest is_dot word [] h ∙ ap (prepend_to_first word) (split-empty_list is_dot) ∙ ap (λ v. v ∷ []) (append-nil word)

parts_of_word_with_dot : (part : List ℕ) (b : ℕ) (rest : List ℕ) → HasNoSeparator is_dot part → is_dot b ≡ true → parts_of_word (part ++ b ∷ rest) ≡ part ∷ parts_of_word rest
unfolding parts_of_word
parts_of_word_with_dot part b rest h e =
    split-piece_and_rest is_dot part (b ∷ rest) h ∙ ap (prepend_to_first part) (split-leading_separator is_dot b rest e) ∙ ap (λ v. v ∷ parts_of_word rest) (append-nil part)

-- If the first dot of a word is at index `n`, the first part is the `n` bytes before that dot. The
-- other parts are those of the bytes after the dot.
pub parts_if_first_dot_at_index : (word : List ℕ) (n : ℕ) → n < length word → IsCompletePiece is_dot (take n word) (drop n word) → parts_of_word word ≡ take n word ∷ parts_of_word (drop (n + 1) word)
parts_if_first_dot_at_index word n inside h =
    let e = drop_more word n 0 inside in
    let dot : is_dot (get_or word n 0) ≡ true = subst (IsAtPieceEnd is_dot) e h.1 in
    ap parts_of_word (sym (take-append-drop n word)) ∙ ap (λ v. parts_of_word (take n word ++ v)) e ∙ parts_of_word_with_dot (take n word) (get_or word n 0) (drop (n + 1) word) h.0 dot

pub word_is_its_only_part : (word : List ℕ) (n : ℕ) → length word ≤ n → IsCompletePiece is_dot (take n word) (drop n word) → parts_of_word word ≡ word ∷ []
word_is_its_only_part word n past h = parts_of_word_without_dot word (subst (HasNoSeparator is_dot) (take_all n word past) h.0)

poke_parts_rejected_if_five_or_more : (name a b k rest value : List ℕ) → poke_parts (name ∷ a ∷ b ∷ k ∷ parts_of_word rest) value ≡ Refused NotACommand
unfolding parts_of_word
poke_parts_rejected_if_five_or_more name a b k rest value = let f = first_piece_of is_dot rest in ap (λ v. poke_parts (name ∷ a ∷ b ∷ k ∷ v) value) f.2

-- `poke` rejects a place of five or more parts
pub poke_rejects_place_of_five_or_more_parts : (place r1 r2 r3 r4 name a b k value : List ℕ)
    → parts_of_word place ≡ name ∷ parts_of_word r1
    → parts_of_word r1 ≡ a ∷ parts_of_word r2
    → parts_of_word r2 ≡ b ∷ parts_of_word r3
    → parts_of_word r3 ≡ k ∷ parts_of_word r4
    → Refused NotACommand ≡ poke_of place value
poke_rejects_place_of_five_or_more_parts place r1 r2 r3 r4 name a b k value e1 e2 e3 e4 =
    sym (ap (λ v. poke_parts v value) (e1 ∙ ap (λ v. name ∷ v) (e2 ∙ ap (λ v. a ∷ v) (e3 ∙ ap (λ v. b ∷ v) e4))) ∙ poke_parts_rejected_if_five_or_more name a b k r4 value)

probe_parts_of_four_or_more : (word name a b rest : List ℕ) → probe_parts word (name ∷ a ∷ b ∷ parts_of_word rest) ≡ probe_of_whole_word word
unfolding parts_of_word
probe_parts_of_four_or_more word name a b rest = let f = first_piece_of is_dot rest in ap (λ v. probe_parts word (name ∷ a ∷ b ∷ v)) f.2

-- `trace` parses a word of four or more parts like a word without dots
pub whole_word_probe_if_four_or_more_parts : (word r1 r2 r3 name a b : List ℕ)
    → parts_of_word word ≡ name ∷ parts_of_word r1
    → parts_of_word r1 ≡ a ∷ parts_of_word r2
    → parts_of_word r2 ≡ b ∷ parts_of_word r3
    → probe_of_whole_word word ≡ probe_of word
whole_word_probe_if_four_or_more_parts word r1 r2 r3 name a b e1 e2 e3 =
    sym (ap (probe_parts word) (e1 ∙ ap (λ v. name ∷ v) (e2 ∙ ap (λ v. a ∷ v) e3)) ∙ probe_parts_of_four_or_more word name a b r3)
