-- The properties of the piece at the start of some bytes: the statement to which its text parses,
-- its bytes and its size.
use Rattle.std.proofs.Common.{◌≡◌, ℕ, ◌+◌, ◌<◌, ◌≤◌, Bool, true, false, cond, leb, List, [], ◌∷◌, length, take, Option, Some, None, Ok, refl, ap, ◌∙◌, ◌⊎◌, inl, inr, arith}
use Rattle.std.proofs.lemmas.Bool.{lt-ltb, leb-true}
use Rattle.mcs_model.specs.declared.op.Op.{Op}
use Rattle.mcs_source.specs.Lexical.{tokens}
use Rattle.mcs_source.specs.Lines as asm
use Rattle.mcs_model.specs.Table.{instruction_of, word_count_of}
use Rattle.mcs_source.specs.Assembly.{statement_bytes, size, is_bad_origin, address_after_statement}
use Rattle.mcs_source.specs.Text.{op_at, complete_op, second_word, piece_text, piece_size}
use Rattle.mcs_dis.specs.ParseBack.{statement}
use Rattle.mcs_dis.proofs.ReadBack.{instruction_text_parses_back, statement_emits_encoding, byte_parses_back, statement_size_is_word_count, next_address_after_instruction, origin_is_not_bad}
use Rattle.mcs_dis.proofs.NoLineEnds.{HasNoLineEnds, no_line_ends_in_byte_text, no_line_ends_in_instruction_text}
use Rattle.mcs_source.proofs.Decoding.{decoded_instruction_is_encoded_by_words, word_count_is_one_or_two}

abbrev pub piece_statement : ℕ → ℕ → Option Op → asm.Statement
piece_statement at b None = asm.Data (asm.Number b ∷ [])
piece_statement at b (Some o) = statement at o

pub record IsPiece (at b : ℕ) (rest : List ℕ) (x : Option Op) : Type 0 where
  pub parses_back : asm.line_of (tokens (piece_text at b x)) ≡ Some (asm.Code None (Some (piece_statement at b x)))
  pub bytes : statement_bytes at [] (piece_statement at b x) ≡ Ok (take (piece_size x) (b ∷ rest))
  pub statement_size : size (piece_statement at b x) ≡ piece_size x
  pub next : address_after_statement (Some (piece_statement at b x)) at ≡ at + piece_size x
  pub no_bad_origin : is_bad_origin (Some (piece_statement at b x)) ≡ false
  pub some : 1 ≤ piece_size x
  pub fits : piece_size x ≤ 1 + length rest
  pub no_line_ends : HasNoLineEnds (piece_text at b x)

single_byte_is_piece : (at b : ℕ) (rest : List ℕ) → b < 256 → IsPiece at b rest None
single_byte_is_piece at b rest lt = record { parses_back = byte_parses_back b lt; bytes = rw (lt-ltb b 256 lt) refl; statement_size = refl; next = refl; no_bad_origin = refl; some = omega arith; fits = omega arith; no_line_ends = no_line_ends_in_byte_text b lt }

words_are_first_bytes : (n b : ℕ) (rest : List ℕ) → (n ≡ 1) ⊎ (n ≡ 2) → n ≤ 1 + length rest → take n (b ∷ second_word rest ∷ []) ≡ take n (b ∷ rest)
words_are_first_bytes n b rest (inl e) le = rw e refl
words_are_first_bytes n b [] (inr e) le = absurd (omega (arith, e, le))
words_are_first_bytes n b (c ∷ rest) (inr e) le = rw e refl

instruction_is_piece : (at b : ℕ) (rest : List ℕ) (o : Op) → second_word rest < 256 → instruction_of b (second_word rest) ≡ Some o → word_count_of o ≤ 1 + length rest → IsPiece at b rest (Some o)
instruction_is_piece at b rest o lt e le =
    let s = decoded_instruction_is_encoded_by_words b (second_word rest) o lt e in
    record {
      parses_back = instruction_text_parses_back at o s.0;
      bytes = statement_emits_encoding at o [] s.0 ∙ ap Ok (s.1 ∙ words_are_first_bytes (word_count_of o) b rest (word_count_is_one_or_two o) le);
      statement_size = statement_size_is_word_count at o;
      next = next_address_after_instruction at at o;
      no_bad_origin = origin_is_not_bad at o;
      some = elim (word_count_is_one_or_two o) [ inl e ↦ omega (arith, e) | inr e ↦ omega (arith, e) ];
      fits = le;
      no_line_ends = no_line_ends_in_instruction_text at o s.0;
    }

pub op_at_is_piece : (at b : ℕ) (rest : List ℕ) → b < 256 → second_word rest < 256 → IsPiece at b rest (op_at b rest)
unfolding op_at
op_at_is_piece at b rest lt second =
    let P : Option Op → Type 0 = λ d. instruction_of b (second_word rest) ≡ d → IsPiece at b rest (complete_op d b rest) in
    (elim (instruction_of b (second_word rest)) as P [
      | None ↦ λ e. single_byte_is_piece at b rest lt
      | Some o ↦ λ e.
          let Q : Bool → Type 0 = λ t. leb (word_count_of o) (1 + length rest) ≡ t → IsPiece at b rest (cond t (Some o) None) in
          (elim (leb (word_count_of o) (1 + length rest)) as Q [
            | true ↦ λ yes. instruction_is_piece at b rest o second e (leb-true (word_count_of o) (1 + length rest) yes)
            | false ↦ λ not_whole. single_byte_is_piece at b rest lt
          ]) refl
    ]) refl
