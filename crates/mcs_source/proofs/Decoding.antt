-- If the opcode table decodes words to an instruction, these words are the encoding of the
-- instruction.
use Rattle.std.proofs.Common.{inr, inl, ◌⊎◌, ◌≡◌, ℕ, ◌+◌, ◌*◌, ◌/◌, ◌%◌, ◌<◌, Bool, true, false, cond, ◌&&◌, eqb, List, [], ◌∷◌, Option, Some, None, refl, ap, subst, arith, sym, ◌∙◌, take}
use Rattle.std.specs.Prelude.{unwrap_or, IsSome, ◌↔◌, find}
use Rattle.std.specs.Option.{option_map, option_to_list}
use Rattle.std.specs.List.{AllByRecursion}
use Rattle.std.proofs.lemmas.Bool.{eqb-true, and_parts, true≢false}
use Rattle.mcs_model.specs.declared.op.Op.{Op}
use Rattle.mcs_model.specs.declared.op.Op.TheVariants.{Jcn, Fim, Jun, Jms, Isz}
use Rattle.mcs_model.specs.Table.{word_count_of, Row, rows, covers, row_of, instruction_of}
use Rattle.mcs_source.specs.Spelling.{spelling}
use Rattle.mcs_source.specs.Spelled.{HasOperandsInRange, IsEncodedBy}

-- Holds if the encoding of the instruction is both words, or only the first word if the instruction
-- has one word. If the second word is a byte, the operands must also be in range.
abbrev pub IsEncoding : ℕ → ℕ → Op → Type 0
IsEncoding first second o = (second < 256 → HasOperandsInRange o) × (spelling o ≡ take (word_count_of o) (first ∷ second ∷ []))

abbrev pub RowDecodesToEncoding : ℕ → ℕ → Row → Type 0
RowDecodesToEncoding first second r = covers (first / 16) (first % 16) r ≡ true → IsEncoding first second (r.op first second)

some_row_is_injective : (x r : Row) → Some x ≡ Some r → x ≡ r
some_row_is_injective x r e = ap (λ (o : Option Row). elim o [ Some y ↦ y | None ↦ x ]) e

some_op_is_injective : (x r : Op) → Some x ≡ Some r → x ≡ r
some_op_is_injective x r e = ap (λ (o : Option Op). elim o [ Some y ↦ y | None ↦ x ]) e

found_row_satisfies_property : (P : Row → Type 0) (p : Row → Bool) (rs : List Row) → AllByRecursion (λ r. p r ≡ true → P r) rs → (r : Row) → find p rs ≡ Some r → P r
found_row_satisfies_property P p [] all r e = absurd (true≢false (ap (λ (o : Option Row). elim o [ Some x ↦ false | None ↦ true ]) e))
found_row_satisfies_property P p (x ∷ rs) all r e =
    let Q : Bool → Type 0 = λ t. p x ≡ t → cond t (Some x) (find p rs) ≡ Some r → P r in
    (elim (p x) as Q [
      | true ↦ λ yes h. subst P (some_row_is_injective x r h) (all.0 yes)
      | false ↦ λ not_here h. found_row_satisfies_property P p rs all.1 r h
    ]) refl e

first_word_of_row_without_condition : (u first : ℕ) → (eqb (first / 16) u && true) ≡ true → u * 16 + first % 16 ≡ first
first_word_of_row_without_condition u first h =
    let e : first / 16 ≡ u = eqb-true (first / 16) u (and_parts (eqb (first / 16) u) true h).0 in
    omega (arith, e)

both_tests_true : (u k m first : ℕ) → (eqb (first / 16) u && eqb m k) ≡ true → (first / 16 ≡ u) × (m ≡ k)
both_tests_true u k m first h =
    let parts = and_parts (eqb (first / 16) u) (eqb m k) h in
    (eqb-true (first / 16) u parts.0, eqb-true m k parts.1)

first_word_of_even_row : (u first : ℕ) → (eqb (first / 16) u && eqb (first % 16 % 2) 0) ≡ true → u * 16 + 2 * (first % 16 / 2) ≡ first
first_word_of_even_row u first h = let e = both_tests_true u 0 (first % 16 % 2) first h in omega (arith, e.0, e.1)

first_word_of_odd_row : (u first : ℕ) → (eqb (first / 16) u && eqb (first % 16 % 2) 1) ≡ true → u * 16 + 1 + 2 * (first % 16 / 2) ≡ first
first_word_of_odd_row u first h = let e = both_tests_true u 1 (first % 16 % 2) first h in omega (arith, e.0, e.1)

first_word_of_single_code_row : (u k first : ℕ) → (eqb (first / 16) u && eqb (first % 16) k) ≡ true → u * 16 + k ≡ first
first_word_of_single_code_row u k first h = let e = both_tests_true u k (first % 16) first h in omega (arith, e.0, e.1)

every_row_decodes_to_encoding : (first second : ℕ) → AllByRecursion (RowDecodesToEncoding first second) rows
every_row_decodes_to_encoding first second = (
  (λ h. ((λ lt. tt), ap (λ (k : ℕ). k ∷ []) (first_word_of_single_code_row 0 0 first h))),
  (
    (λ h. ((λ lt. (omega arith, lt)), ap (λ (k : ℕ). k ∷ second ∷ []) (first_word_of_row_without_condition 1 first h))),
    (
      (λ h. ((λ lt. (omega arith, lt)), ap (λ (k : ℕ). k ∷ second ∷ []) (first_word_of_even_row 2 first h))),
      (
        (λ h. ((λ lt. omega arith), ap (λ (k : ℕ). k ∷ []) (first_word_of_odd_row 2 first h))),
        (
          (λ h. ((λ lt. omega arith), ap (λ (k : ℕ). k ∷ []) (first_word_of_even_row 3 first h))),
          (
            (λ h. ((λ lt. omega arith), ap (λ (k : ℕ). k ∷ []) (first_word_of_odd_row 3 first h))),
            (
              (λ h. ((λ lt. (omega arith, lt)), ap (λ (k : ℕ). k ∷ second ∷ []) (first_word_of_row_without_condition 4 first h))),
              (
                (λ h. ((λ lt. (omega arith, lt)), ap (λ (k : ℕ). k ∷ second ∷ []) (first_word_of_row_without_condition 5 first h))),
                (
                  (λ h. ((λ lt. omega arith), ap (λ (k : ℕ). k ∷ []) (first_word_of_row_without_condition 6 first h))),
                  (
                    (λ h. ((λ lt. (omega arith, lt)), ap (λ (k : ℕ). k ∷ second ∷ []) (first_word_of_row_without_condition 7 first h))),
                    (
                      (λ h. ((λ lt. omega arith), ap (λ (k : ℕ). k ∷ []) (first_word_of_row_without_condition 8 first h))),
                      (
                        (λ h. ((λ lt. omega arith), ap (λ (k : ℕ). k ∷ []) (first_word_of_row_without_condition 9 first h))),
                        (
                          (λ h. ((λ lt. omega arith), ap (λ (k : ℕ). k ∷ []) (first_word_of_row_without_condition 10 first h))),
                          (
                            (λ h. ((λ lt. omega arith), ap (λ (k : ℕ). k ∷ []) (first_word_of_row_without_condition 11 first h))),
                            (
                              (λ h. ((λ lt. omega arith), ap (λ (k : ℕ). k ∷ []) (first_word_of_row_without_condition 12 first h))),
                              (
                                (λ h. ((λ lt. omega arith), ap (λ (k : ℕ). k ∷ []) (first_word_of_row_without_condition 13 first h))),
                                (
                                  (λ h. ((λ lt. tt), ap (λ (k : ℕ). k ∷ []) (first_word_of_single_code_row 14 0 first h))),
                                  (
                                    (λ h. ((λ lt. tt), ap (λ (k : ℕ). k ∷ []) (first_word_of_single_code_row 14 1 first h))),
                                    (
                                      (λ h. ((λ lt. tt), ap (λ (k : ℕ). k ∷ []) (first_word_of_single_code_row 14 2 first h))),
                                      (
                                        (λ h. ((λ lt. tt), ap (λ (k : ℕ). k ∷ []) (first_word_of_single_code_row 14 4 first h))),
                                        (
                                          (λ h. ((λ lt. tt), ap (λ (k : ℕ). k ∷ []) (first_word_of_single_code_row 14 5 first h))),
                                          (
                                            (λ h. ((λ lt. tt), ap (λ (k : ℕ). k ∷ []) (first_word_of_single_code_row 14 6 first h))),
                                            (
                                              (λ h. ((λ lt. tt), ap (λ (k : ℕ). k ∷ []) (first_word_of_single_code_row 14 7 first h))),
                                              (
                                                (λ h. ((λ lt. tt), ap (λ (k : ℕ). k ∷ []) (first_word_of_single_code_row 14 8 first h))),
                                                (
                                                  (λ h. ((λ lt. tt), ap (λ (k : ℕ). k ∷ []) (first_word_of_single_code_row 14 9 first h))),
                                                  (
                                                    (λ h. ((λ lt. tt), ap (λ (k : ℕ). k ∷ []) (first_word_of_single_code_row 14 10 first h))),
                                                    (
                                                      (λ h. ((λ lt. tt), ap (λ (k : ℕ). k ∷ []) (first_word_of_single_code_row 14 11 first h))),
                                                      (
                                                        (λ h. ((λ lt. tt), ap (λ (k : ℕ). k ∷ []) (first_word_of_single_code_row 14 12 first h))),
                                                        (
                                                          (λ h. ((λ lt. tt), ap (λ (k : ℕ). k ∷ []) (first_word_of_single_code_row 14 13 first h))),
                                                          (
                                                            (λ h. ((λ lt. tt), ap (λ (k : ℕ). k ∷ []) (first_word_of_single_code_row 14 14 first h))),
                                                            (
                                                              (λ h. ((λ lt. tt), ap (λ (k : ℕ). k ∷ []) (first_word_of_single_code_row 14 15 first h))),
                                                              (
                                                                (λ h. ((λ lt. tt), ap (λ (k : ℕ). k ∷ []) (first_word_of_single_code_row 15 0 first h))),
                                                                (
                                                                  (λ h. ((λ lt. tt), ap (λ (k : ℕ). k ∷ []) (first_word_of_single_code_row 15 1 first h))),
                                                                  (
                                                                    (λ h. ((λ lt. tt), ap (λ (k : ℕ). k ∷ []) (first_word_of_single_code_row 15 2 first h))),
                                                                    (
                                                                      (λ h. ((λ lt. tt), ap (λ (k : ℕ). k ∷ []) (first_word_of_single_code_row 15 3 first h))),
                                                                      (
                                                                        (λ h. ((λ lt. tt), ap (λ (k : ℕ). k ∷ []) (first_word_of_single_code_row 15 4 first h))),
                                                                        (
                                                                          (λ h. ((λ lt. tt), ap (λ (k : ℕ). k ∷ []) (first_word_of_single_code_row 15 5 first h))),
                                                                          (
                                                                            (λ h. ((λ lt. tt), ap (λ (k : ℕ). k ∷ []) (first_word_of_single_code_row 15 6 first h))),
                                                                            (
                                                                              (λ h. ((λ lt. tt), ap (λ (k : ℕ). k ∷ []) (first_word_of_single_code_row 15 7 first h))),
                                                                              (
                                                                                (λ h. ((λ lt. tt), ap (λ (k : ℕ). k ∷ []) (first_word_of_single_code_row 15 8 first h))),
                                                                                (
                                                                                  (λ h. ((λ lt. tt), ap (λ (k : ℕ). k ∷ []) (first_word_of_single_code_row 15 9 first h))),
                                                                                  (
                                                                                    (λ h. ((λ lt. tt), ap (λ (k : ℕ). k ∷ []) (first_word_of_single_code_row 15 10 first h))),
                                                                                    (
                                                                                      (λ h. ((λ lt. tt), ap (λ (k : ℕ). k ∷ []) (first_word_of_single_code_row 15 11 first h))),
                                                                                      (
                                                                                        (λ h. ((λ lt. tt), ap (λ (k : ℕ). k ∷ []) (first_word_of_single_code_row 15 12 first h))),
                                                                                        (
                                                                                          (λ h. ((λ lt. tt), ap (λ (k : ℕ). k ∷ []) (first_word_of_single_code_row 15 13 first h))),
                                                                                          tt,
                                                                                        ),
                                                                                      ),
                                                                                    ),
                                                                                  ),
                                                                                ),
                                                                              ),
                                                                            ),
                                                                          ),
                                                                        ),
                                                                      ),
                                                                    ),
                                                                  ),
                                                                ),
                                                              ),
                                                            ),
                                                          ),
                                                        ),
                                                      ),
                                                    ),
                                                  ),
                                                ),
                                              ),
                                            ),
                                          ),
                                        ),
                                      ),
                                    ),
                                  ),
                                ),
                              ),
                            ),
                          ),
                        ),
                      ),
                    ),
                  ),
                ),
              ),
            ),
          ),
        ),
      ),
    ),
  ),
)

decoded_instruction_is_encoding : (first second : ℕ) (o : Op) → instruction_of first second ≡ Some o → IsEncoding first second o
unfolding instruction_of row_of
decoded_instruction_is_encoding first second o e =
    let Q : Option Row → Type 0 = λ x. find (covers (first / 16) (first % 16)) rows ≡ x → option_map (λ (r : Row). r.op first second) x ≡ Some o → IsEncoding first second o in
    (elim (find (covers (first / 16) (first % 16)) rows) as Q [
      | None ↦ λ found h. absurd (true≢false (ap (λ (x : Option Op). elim x [ Some y ↦ false | None ↦ true ]) h))
      | Some r ↦ λ found h. subst (IsEncoding first second) (some_op_is_injective (r.op first second) o h) (found_row_satisfies_property (λ r. IsEncoding first second (r.op first second)) (covers (first / 16) (first % 16)) rows (every_row_decodes_to_encoding first second) r found)
    ]) refl e

pub decoded_instruction_is_encoded_by_words : (first second : ℕ) (o : Op) → second < 256 → instruction_of first second ≡ Some o → IsEncodedBy first second o
decoded_instruction_is_encoded_by_words first second o lt e = let s = decoded_instruction_is_encoding first second o e in (s.0 lt, s.1)

pub word_count_is_one_or_two : (o : Op) → (word_count_of o ≡ 1) ⊎ (word_count_of o ≡ 2)
word_count_is_one_or_two (Jcn _ _) = inr refl
word_count_is_one_or_two (Fim _ _) = inr refl
word_count_is_one_or_two (Jun _ _) = inr refl
word_count_is_one_or_two (Jms _ _) = inr refl
word_count_is_one_or_two (Isz _ _) = inr refl
word_count_is_one_or_two _ = inl refl

-- If one or two words decode to an instruction, the words are the encoding of the instruction. A
-- second word must be given exactly when the instruction has two words.
pub decoded_words_are_spelling : (first : ℕ) (second : Option ℕ) (o : Op) → instruction_of first (unwrap_or second 0) ≡ Some o → IsSome second ↔ (word_count_of o ≡ 2) → first ∷ option_to_list second ≡ spelling o
decoded_words_are_spelling first None o e both = elim (word_count_is_one_or_two o) [
  | inl one ↦ sym ((decoded_instruction_is_encoding first 0 o e).1 ∙ rw one refl)
  | inr two ↦ absurd (true≢false (sym (both.1 two)))
]
decoded_words_are_spelling first (Some second) o e both =
    let has_two_words : word_count_of o ≡ 2 = both.0 refl in
    sym ((decoded_instruction_is_encoding first second o e).1 ∙ rw has_two_words refl)
