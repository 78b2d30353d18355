-- The invariants of the loops that write a source text and a listing: the lines already written,
-- followed by the lines for the remaining bytes, are the whole text.
use Rattle.std.proofs.Common.{◌≡◌, ℕ, suc, zero, ◌+◌, ◌-◌, ◌<◌, ◌≤◌, Bool, true, false, cond, leb, List, [], ◌∷◌, ◌++◌, length, get_or, drop, take, Option, Some, None, refl, sym, ap, subst, ◌∙◌, inl, inr, arith, append_assoc, append-nil}
use Rattle.std.specs.Option.{option_map_or}
use Rattle.std.proofs.lemmas.Bool.{leb-true, le-leb, lt-leb, lt-ltb}
use Rattle.std.proofs.lemmas.List.{length-drop, length-take}
use Rattle.std.specs.List.{flat_map}
use Rattle.mcs_model.specs.declared.op.Op.{Op}
use Rattle.mcs_model.specs.Table.{instruction_of, word_count_of}
use Rattle.mcs_source.specs.Text.{listing_line, listing_lines, listing_text, op_at, piece_size, piece_text, second_word_of_piece, second_word, complete_op}
use Rattle.mcs_source.specs.SourceText.{piece_texts, origin_text, range, source_text}
use Rattle.mcs_model.specs.TextLines.{as_line}
use Rattle.mcs_source.proofs.Decoding.{word_count_is_one_or_two}
use Rattle.mcs_model.proofs.ListLemmas.{take_rest-unchanged}

pub piece_size_is_at_least_1 : (x : Option Op) → 1 ≤ piece_size x
piece_size_is_at_least_1 None = omega arith
piece_size_is_at_least_1 (Some o) = elim (word_count_is_one_or_two o) [ inl e ↦ omega (arith, e) | inr e ↦ omega (arith, e) ]

complete_op_fits : (o : Option Op) (b : ℕ) (rest : List ℕ) → piece_size (complete_op o b rest) ≤ 1 + length rest
complete_op_fits None b rest = omega arith
complete_op_fits (Some o) b rest =
    let Q : Bool → Type 0 = λ t. leb (word_count_of o) (1 + length rest) ≡ t → piece_size (cond t (Some o) None) ≤ 1 + length rest in
    (elim (leb (word_count_of o) (1 + length rest)) as Q [
      | true ↦ λ yes. leb-true (word_count_of o) (1 + length rest) yes
      | false ↦ λ not_whole. omega arith
    ]) refl

pub piece_size_fits : (b : ℕ) (rest : List ℕ) → piece_size (op_at b rest) ≤ 1 + length rest
unfolding op_at
piece_size_fits b rest = complete_op_fits (instruction_of b (second_word rest)) b rest

-- ---- the instruction at the start of some bytes

-- a first word alone is complete if the decoded instruction has one word
pub one_word_is_complete : (o : Option Op) (b : ℕ) → option_map_or word_count_of o 1 ≤ 1 → complete_op o b [] ≡ o
one_word_is_complete None b le = refl
one_word_is_complete (Some o) b le = rw (le-leb (word_count_of o) 1 le) refl

-- a first word alone is not complete if the decoded instruction has two words
pub two_words_are_incomplete : (o : Option Op) (b : ℕ) → 1 < option_map_or word_count_of o 1 → complete_op o b [] ≡ None
two_words_are_incomplete None b lt = refl
two_words_are_incomplete (Some o) b lt = rw (lt-leb (word_count_of o) 1 lt) refl

-- a decoded instruction is complete if a second word follows the first word
pub complete_with_second_word : (o : Option Op) (b c : ℕ) (rest : List ℕ) → complete_op o b (c ∷ rest) ≡ o
complete_with_second_word None b c rest = refl
complete_with_second_word (Some o) b c rest =
    let fits : word_count_of o ≤ 1 + length (c ∷ rest) = elim (word_count_is_one_or_two o) [ inl e ↦ omega (arith, e) | inr e ↦ omega (arith, e) ] in
    rw (le-leb (word_count_of o) (1 + length (c ∷ rest)) fits) refl

pub op_of_two_bytes : (bytes : List ℕ) → 2 ≤ length bytes → instruction_of (get_or bytes 0 0) (get_or bytes 1 0) ≡ op_at (get_or bytes 0 0) (drop 1 bytes)
unfolding op_at
op_of_two_bytes [] two = absurd (omega (arith, two))
op_of_two_bytes (b ∷ []) two = absurd (omega (arith, two))
op_of_two_bytes (b ∷ c ∷ rest) two = sym (complete_with_second_word (instruction_of b c) b c rest)

pub op_of_one_byte : (bytes : List ℕ) → 0 < length bytes → length bytes < 2 → op_at (get_or bytes 0 0) [] ≡ op_at (get_or bytes 0 0) (drop 1 bytes)
op_of_one_byte [] some short = absurd (omega (arith, some))
op_of_one_byte (b ∷ []) some short = refl
op_of_one_byte (b ∷ c ∷ rest) some short = absurd (omega (arith, short))

-- the piece at the start of some bytes does not extend past their end
pub start_piece_fits : (bytes : List ℕ) → 0 < length bytes → piece_size (op_at (get_or bytes 0 0) (drop 1 bytes)) ≤ length bytes
start_piece_fits [] some = absurd (omega (arith, some))
start_piece_fits (b ∷ rest) some = omega (arith, piece_size_fits b rest)

pub start_piece_is_not_empty : (bytes : List ℕ) → 0 < piece_size (op_at (get_or bytes 0 0) (drop 1 bytes))
start_piece_is_not_empty bytes = piece_size_is_at_least_1 (op_at (get_or bytes 0 0) (drop 1 bytes))

pub second_word_is_second_byte : (bytes : List ℕ) → 2 ≤ length bytes → Some (second_word (drop 1 bytes)) ≡ Some (get_or bytes 1 0)
second_word_is_second_byte [] two = absurd (omega (arith, two))
second_word_is_second_byte (b ∷ []) two = absurd (omega (arith, two))
second_word_is_second_byte (b ∷ c ∷ rest) two = refl

pub second_word_of_two : (piece : Option Op) (bytes : List ℕ) → 1 < piece_size piece → piece_size piece ≤ length bytes → Some (get_or bytes 1 0) ≡ second_word_of_piece piece (drop 1 bytes)
second_word_of_two piece bytes more fits = rw (lt-ltb 1 (piece_size piece) more) (sym (second_word_is_second_byte bytes (omega (arith, more, fits))))

pub drop_after_first_byte : (n b : ℕ) (rest : List ℕ) → 1 ≤ n → drop n (b ∷ rest) ≡ drop (n - 1) rest
drop_after_first_byte zero b rest le = absurd (omega (arith, le))
drop_after_first_byte (suc n) b rest le = ap (λ k. drop k rest) (omega arith)

-- ---- the source

-- Holds if the text `out`, followed by the source lines of the bytes `rest`, is `full_text`. The
-- bytes `rest` start at address `at` and end within the ROM.
pub record IsSourceSoFar (full_text out : List ℕ) (at : ℕ) (rest : List ℕ) : Type 0 where
  pub fuel : ℕ
  pub enough : length rest ≤ fuel
  pub in_rom : at + length rest ≤ 4096
  pub text : out ++ flat_map as_line (piece_texts fuel at rest) ≡ full_text

source_so_far_after_first_piece : (fuel : ℕ) (full_text out : List ℕ) (at b : ℕ) (rest : List ℕ) → length (b ∷ rest) ≤ fuel → at + length (b ∷ rest) ≤ 4096 → out ++ flat_map as_line (piece_texts fuel at (b ∷ rest)) ≡ full_text
    → IsSourceSoFar full_text (out ++ as_line (piece_text at b (op_at b rest))) (at + piece_size (op_at b rest)) (drop (piece_size (op_at b rest)) (b ∷ rest))
unfolding piece_texts
source_so_far_after_first_piece zero full_text out at b rest enough in_rom text = absurd (omega (arith, enough))
source_so_far_after_first_piece (suc fuel) full_text out at b rest enough in_rom text =
    let n : ℕ = piece_size (op_at b rest) in
    let some : 1 ≤ piece_size (op_at b rest) = piece_size_is_at_least_1 (op_at b rest) in
    let fits : piece_size (op_at b rest) ≤ 1 + length rest = piece_size_fits b rest in
    let len : length (drop (n - 1) rest) ≡ length rest - (n - 1) = length-drop (n - 1) rest in
    rw (drop_after_first_byte (piece_size (op_at b rest)) b rest some) (record {
      fuel = fuel;
      enough = omega (arith, len, enough);
      in_rom = omega (arith, len, in_rom, some, fits);
      text = append_assoc out (as_line (piece_text at b (op_at b rest))) (flat_map as_line (piece_texts fuel (at + n) (drop (n - 1) rest))) ∙ text;
    })

source_so_far_after_piece : (full_text out new rest : List ℕ) (at n : ℕ) → 0 < length rest → IsSourceSoFar full_text out at rest → n ≡ piece_size (op_at (get_or rest 0 0) (drop 1 rest))
    → new ≡ out ++ as_line (piece_text at (get_or rest 0 0) (op_at (get_or rest 0 0) (drop 1 rest))) → IsSourceSoFar full_text new (at + n) (drop n rest)
source_so_far_after_piece full_text out new [] at n some w size line = absurd (omega (arith, some))
source_so_far_after_piece full_text out new (b ∷ rest) at n some w size line = rw (line, size) (source_so_far_after_first_piece w.fuel full_text out at b rest w.enough w.in_rom w.text)

pub source_so_far_after_piece_in_slice : (full_text out new rest : List ℕ) (at n here : ℕ) → 0 < length rest → IsSourceSoFar full_text out at rest → here ≡ at → n ≡ piece_size (op_at (get_or rest 0 0) (drop 1 rest))
    → new ≡ out ++ as_line (piece_text here (get_or rest 0 0) (op_at (get_or rest 0 0) (drop 1 rest))) → IsSourceSoFar full_text new (at + n) (take (length rest - n) (drop n rest))
source_so_far_after_piece_in_slice full_text out new rest at n here some w there size line =
    let written : new ≡ out ++ as_line (piece_text at (get_or rest 0 0) (op_at (get_or rest 0 0) (drop 1 rest))) =
    line ∙ ap (λ (k : ℕ). out ++ as_line (piece_text k (get_or rest 0 0) (op_at (get_or rest 0 0) (drop 1 rest)))) there in
    subst (λ (l : List ℕ). IsSourceSoFar full_text new (at + n) l) (sym (take_rest-unchanged n rest)) (source_so_far_after_piece full_text out new rest at n some w size written)

pub source_so_far_at_start : (rom out : List ℕ) (from to at n m : ℕ) → length rom ≡ 4096 → from < to → to ≤ 4096 → out ≡ as_line (origin_text from) → at ≡ from → n ≡ from → m ≡ to → IsSourceSoFar (source_text rom from to) out at (take (m - n) (drop n rom))
source_so_far_at_start rom out from to at n m all some end is there low high =
    rw (is, there, low, high) (record {
      fuel = length (range rom from to);
      enough = omega arith;
      in_rom = omega (arith, length-take (to - from) (drop from rom), length-drop from rom, all, some, end);
      text = refl;
    })

no_piece_texts_of_no_bytes : (fuel at : ℕ) → piece_texts fuel at [] ≡ []
unfolding piece_texts
no_piece_texts_of_no_bytes zero at = refl
no_piece_texts_of_no_bytes (suc fuel) at = refl

pub source_is_complete : (full_text out rest : List ℕ) (at : ℕ) → length rest ≡ 0 → IsSourceSoFar full_text out at rest → out ≡ full_text
source_is_complete full_text out [] at none w = sym (append-nil out) ∙ (ap (λ (ls : List (List ℕ)). out ++ flat_map as_line ls) (sym (no_piece_texts_of_no_bytes w.fuel at)) ∙ w.text)
source_is_complete full_text out (b ∷ rest) at none w = absurd (omega (arith, none))

-- ---- the listing

-- Holds if the text `out`, followed by at most `left` listing lines for the bytes `rest`, is
-- `full_text`. The bytes `rest` start at address `at` and end within the ROM.
pub record IsListingSoFar (full_text out : List ℕ) (left at : ℕ) (rest : List ℕ) : Type 0 where
  pub in_rom : at + length rest ≤ 4096
  pub text : out ++ flat_map as_line (listing_lines left at rest) ≡ full_text

listing_so_far_after_first_piece : (left : ℕ) (full_text out : List ℕ) (at b : ℕ) (rest : List ℕ) → IsListingSoFar full_text out (suc left) at (b ∷ rest)
    → IsListingSoFar full_text (out ++ as_line (listing_line at b rest (op_at b rest))) left (at + piece_size (op_at b rest)) (drop (piece_size (op_at b rest)) (b ∷ rest))
unfolding listing_lines
listing_so_far_after_first_piece left full_text out at b rest w =
    let n : ℕ = piece_size (op_at b rest) in
    let some : 1 ≤ piece_size (op_at b rest) = piece_size_is_at_least_1 (op_at b rest) in
    let fits : piece_size (op_at b rest) ≤ 1 + length rest = piece_size_fits b rest in
    let len : length (drop (n - 1) rest) ≡ length rest - (n - 1) = length-drop (n - 1) rest in
    rw (drop_after_first_byte (piece_size (op_at b rest)) b rest some) (record {
      in_rom = omega (arith, len, w.in_rom, some, fits);
      text = append_assoc out (as_line (listing_line at b rest (op_at b rest))) (flat_map as_line (listing_lines left (at + n) (drop (n - 1) rest))) ∙ w.text;
    })

listing_so_far_after_piece : (full_text out new rest : List ℕ) (left at n : ℕ) → 0 < length rest → IsListingSoFar full_text out (suc left) at rest → n ≡ piece_size (op_at (get_or rest 0 0) (drop 1 rest))
    → new ≡ out ++ as_line (listing_line at (get_or rest 0 0) (drop 1 rest) (op_at (get_or rest 0 0) (drop 1 rest))) → IsListingSoFar full_text new left (at + n) (drop n rest)
listing_so_far_after_piece full_text out new [] left at n some w size line = absurd (omega (arith, some))
listing_so_far_after_piece full_text out new (b ∷ rest) left at n some w size line = rw (line, size) (listing_so_far_after_first_piece left full_text out at b rest w)

pub listing_so_far_after_piece_in_slice : (full_text out new rest : List ℕ) (lines i at n here : ℕ) → i < lines → 0 < length rest → IsListingSoFar full_text out (lines - i) at rest → here ≡ at → n ≡ piece_size (op_at (get_or rest 0 0) (drop 1 rest))
    → new ≡ out ++ as_line (listing_line here (get_or rest 0 0) (drop 1 rest) (op_at (get_or rest 0 0) (drop 1 rest))) → IsListingSoFar full_text new (lines - (i + 1)) (at + n) (take (length rest - n) (drop n rest))
listing_so_far_after_piece_in_slice full_text out new rest lines i at n here more some w there size line =
    let left : lines - i ≡ suc (lines - (i + 1)) = omega (arith, more) in
    let written : new ≡ out ++ as_line (listing_line at (get_or rest 0 0) (drop 1 rest) (op_at (get_or rest 0 0) (drop 1 rest))) =
    line ∙ ap (λ (k : ℕ). out ++ as_line (listing_line k (get_or rest 0 0) (drop 1 rest) (op_at (get_or rest 0 0) (drop 1 rest)))) there in
    let now : IsListingSoFar full_text out (suc (lines - (i + 1))) at rest = subst (λ (k : ℕ). IsListingSoFar full_text out k at rest) left w in
    subst (λ (l : List ℕ). IsListingSoFar full_text new (lines - (i + 1)) (at + n) l) (sym (take_rest-unchanged n rest)) (listing_so_far_after_piece full_text out new rest (lines - (i + 1)) at n some now size written)

pub listing_so_far_at_start : (rom out : List ℕ) (from lines at n : ℕ) → length rom ≡ 4096 → from < 4096 → out ≡ [] → at ≡ from → n ≡ from → IsListingSoFar (listing_text rom from lines) out (lines - 0) at (take (length rom - n) (drop n rom))
listing_so_far_at_start rom out from lines at n all low is there start =
    let none : lines - 0 ≡ lines = omega arith in
    rw (is, there, start, none) (subst (λ (l : List ℕ). IsListingSoFar (listing_text rom from lines) [] lines from l) (sym (take_rest-unchanged from rom)) (record {
      in_rom = omega (arith, length-drop from rom, all, low);
      text = refl;
    }))

no_listing_lines_of_no_bytes : (left at : ℕ) → listing_lines left at [] ≡ []
unfolding listing_lines
no_listing_lines_of_no_bytes zero at = refl
no_listing_lines_of_no_bytes (suc left) at = refl

pub listing_is_complete_at_end_of_rom : (full_text out rest : List ℕ) (left at : ℕ) → length rest ≡ 0 → IsListingSoFar full_text out left at rest → out ≡ full_text
listing_is_complete_at_end_of_rom full_text out [] left at none w = sym (append-nil out) ∙ (ap (λ (ls : List (List ℕ)). out ++ flat_map as_line ls) (sym (no_listing_lines_of_no_bytes left at)) ∙ w.text)
listing_is_complete_at_end_of_rom full_text out (b ∷ rest) left at none w = absurd (omega (arith, none))

listing_is_complete_if_no_lines_left : (full_text out rest : List ℕ) (at : ℕ) → IsListingSoFar full_text out 0 at rest → out ≡ full_text
unfolding listing_lines
listing_is_complete_if_no_lines_left full_text out rest at w = sym (append-nil out) ∙ w.text

pub listing_is_complete_after_all_lines : (full_text out rest : List ℕ) (lines i at : ℕ) → lines ≤ i → IsListingSoFar full_text out (lines - i) at rest → out ≡ full_text
listing_is_complete_after_all_lines full_text out rest lines i at end w =
    let none : lines - i ≡ 0 = omega (arith, end) in
    listing_is_complete_if_no_lines_left full_text out rest at (subst (λ (k : ℕ). IsListingSoFar full_text out k at rest) none w)
