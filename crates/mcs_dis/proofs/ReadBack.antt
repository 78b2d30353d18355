-- The text of an instruction, a `DB` byte or an `ORG` parses to the corresponding statement.
use Rattle.std.proofs.Common.{◌≡◌, ℕ, suc, zero, ◌+◌, ◌*◌, ◌/◌, ◌%◌, ◌<◌, min, Bool, true, false, ◌&&◌, ltb, eqb, List, [], ◌∷◌, ◌++◌, length, Option, Some, None, refl, sym, ap, ◌∙◌, inl, inr, arith, append_assoc, append-nil, eq-eqb, Ok}
use Rattle.std.proofs.lemmas.Bool.{eqb-true, and_parts, cases_eq, lt-ltb, ltb-true}
use Rattle.std.specs.List.{list_all}
use Rattle.std.specs.Fmt.{decimal, digits}
use Rattle.mcs_model.specs.QueryText.{two_hex_digits, hex_digit}
use Rattle.std.specs.Char.{digit_value}
use Rattle.mcs_model.specs.declared.op.Op.{Op}
use Rattle.mcs_model.specs.declared.op.Op.TheVariants.{Nop, Jcn, Fim, Src, Fin, Jin, Jun, Jms, Inc, Isz, Add, Sub, Ld, Xch, Bbl, Ldm, Wrm, Wmp, Wrr, Wr0, Wr1, Wr2, Wr3, Sbm, Rdm, Rdr, Adm, Rd0, Rd1, Rd2, Rd3, Clb, Clc, Iac, Cmc, Cma, Ral, Rar, Tcc, Dac, Tcs, Stc, Daa, Kbp, Dcl}
use Rattle.mcs_source.specs.Lexical.{Token, Word, Comma, tokens, is_word_byte}
use Rattle.mcs_source.proofs.Tokens.{tokens_byte_by_byte, tokens_after, word_token_before}
use Rattle.mcs_model.specs.Numerals.{capped_number, number_in_word}
use Rattle.mcs_source.specs.Mnemonics.{mnemonic_of, mnemonic_in_group1, mnemonic_in_group2, mnemonic_in_group3, mnemonic_in_group4, mnemonic_in_group5, mnemonic_in_group6}
use Rattle.mcs_source.specs.Lines as asm
use Rattle.mcs_source.specs.Text.{address, byte_text, instruction_text}
use Rattle.mcs_source.specs.SourceText.{origin_text}
use Rattle.mcs_source.specs.Assembly.{Names, statement_bytes, size, address_after_statement, is_bad_origin, reachable_page}
use Rattle.mcs_model.specs.Table.{word_count_of}
use Rattle.mcs_source.specs.Spelling.{spelling}
use Rattle.mcs_source.specs.Spelled.{HasOperandsInRange}
use Rattle.mcs_dis.specs.ParseBack.{statement, TextParsesToStatement}
use Rattle.mcs_model.specs.Options.{◌>>=◌}

-- true if `p` is true for each number below `n`
abbrev pub holds_for_each_below : (ℕ → Bool) → ℕ → Bool
holds_for_each_below p zero = true
holds_for_each_below p (suc n) = p n && holds_for_each_below p n

pub test_true_below_limit : (p : ℕ → Bool) (n : ℕ) → holds_for_each_below p n ≡ true → (d : ℕ) → d < n → p d ≡ true
test_true_below_limit p zero all d lt = absurd (omega arith)
test_true_below_limit p (suc n) all d lt =
    let (here, more) = and_parts (p n) (holds_for_each_below p n) all in
    elim (cases_eq d n) [
      | inl e ↦ rw e here
      | inr ne ↦ test_true_below_limit p n more d (omega arith)
    ]

hex_digit_is_word_byte : (d : ℕ) → d < 16 → is_word_byte (hex_digit d) ≡ true
hex_digit_is_word_byte d lt = test_true_below_limit (λ d. is_word_byte (hex_digit d)) 16 refl d lt

value_of_hex_digit : (d : ℕ) → d < 16 → digit_value (hex_digit d) ≡ d
value_of_hex_digit d lt = eqb-true _ _ (test_true_below_limit (λ d. eqb (digit_value (hex_digit d)) d) 16 refl d lt)

decimal_has_only_word_bytes : (d : ℕ) → d < 16 → list_all is_word_byte (decimal d) ≡ true
unfolding digits
decimal_has_only_word_bytes d lt = test_true_below_limit (λ d. list_all is_word_byte (decimal d)) 16 refl d lt

-- if word bytes `bs` are the last bytes of a line, the last token is the word `w ++ bs`
tokens_of_word_at_line_end : (w bs : List ℕ) → list_all is_word_byte bs ≡ true → tokens_after w bs ≡ word_token_before (w ++ bs) []
unfolding tokens_after
tokens_of_word_at_line_end w [] all = ap (λ l. word_token_before l []) (sym (append-nil w))
tokens_of_word_at_line_end w (b ∷ bs) all =
    let (here, more) = and_parts (is_word_byte b) (list_all is_word_byte bs) all in
    rw here (tokens_of_word_at_line_end (w ++ b ∷ []) bs more ∙ ap (λ l. word_token_before l []) (append_assoc w (b ∷ []) bs))

-- if a comma follows word bytes `bs`, the tokens are the word `w ++ bs`, the comma, and the tokens
-- of the rest
tokens_of_word_before_comma : (w bs rest : List ℕ) → list_all is_word_byte bs ≡ true → tokens_after w (bs ++ 44 ∷ rest) ≡ word_token_before (w ++ bs) (Comma ∷ tokens_after [] rest)
unfolding tokens_after
tokens_of_word_before_comma w [] rest all = ap (λ l. word_token_before l (Comma ∷ tokens_after [] rest)) (sym (append-nil w))
tokens_of_word_before_comma w (b ∷ bs) rest all =
    let (here, more) = and_parts (is_word_byte b) (list_all is_word_byte bs) all in
    rw here (tokens_of_word_before_comma (w ++ b ∷ []) bs rest more ∙ ap (λ l. word_token_before l (Comma ∷ tokens_after [] rest)) (append_assoc w (b ∷ []) bs))

is_some_equal_to : ℕ → Option ℕ → Bool
is_some_equal_to n (Some m) = eqb m n
is_some_equal_to n None = false

option_is_some_if_equal : (n : ℕ) (o : Option ℕ) → is_some_equal_to n o ≡ true → o ≡ Some n
unfolding is_some_equal_to
option_is_some_if_equal n None h = absurd cc
option_is_some_if_equal n (Some m) h = ap (λ (k : ℕ). Some k) (eqb-true _ _ h)

small_decimal_parses_back : (d : ℕ) → d < 16 → asm.number_up_to_15 (decimal d) ≡ Some d
unfolding digits is_some_equal_to
small_decimal_parses_back d lt = option_is_some_if_equal d (asm.number_up_to_15 (decimal d)) (test_true_below_limit (λ d. is_some_equal_to d (asm.number_up_to_15 (decimal d))) 16 refl d lt)

pair_parses_back : (d : ℕ) → d < 8 → asm.pair_named (80 ∷ decimal d) ≡ Some d
unfolding digits is_some_equal_to
pair_parses_back d lt = option_is_some_if_equal d (asm.pair_named (80 ∷ decimal d)) (test_true_below_limit (λ d. is_some_equal_to d (asm.pair_named (80 ∷ decimal d))) 8 refl d lt)

number_of_option : Option asm.Operand → Option ℕ
number_of_option (Some (asm.Number m)) = Some m
number_of_option o = None

is_number_operand : ℕ → Option asm.Operand → Bool
is_number_operand n (Some (asm.Number m)) = eqb m n
is_number_operand n o = false

operand_is_number_if_test_true : (n : ℕ) (o : Option asm.Operand) → is_number_operand n o ≡ true → o ≡ Some (asm.Number n)
unfolding is_number_operand
operand_is_number_if_test_true n None h = absurd cc
operand_is_number_if_test_true n (Some (asm.Name w)) h = absurd cc
operand_is_number_if_test_true n (Some (asm.Number m)) h = ap (λ (k : ℕ). Some (asm.Number k)) (eqb-true _ _ h)

-- ---- the tokens of a number in decimal
word_token_before_if_not_empty : (w : List ℕ) (ts : List Token) → 0 < length w → word_token_before w ts ≡ Word w ∷ ts
word_token_before_if_not_empty [] ts some = absurd (omega (arith, some))
word_token_before_if_not_empty (b ∷ w) ts some = refl

decimal_is_not_empty : (d : ℕ) → d < 16 → 0 < length (decimal d)
unfolding digits
decimal_is_not_empty d lt = ltb-true 0 (length (decimal d)) (test_true_below_limit (λ d. ltb 0 (length (decimal d))) 16 refl d lt)

tokens_of_decimal : (d : ℕ) → d < 16 → tokens_after [] (decimal d) ≡ Word (decimal d) ∷ []
tokens_of_decimal d lt = tokens_of_word_at_line_end [] (decimal d) (decimal_has_only_word_bytes d lt) ∙ word_token_before_if_not_empty (decimal d) [] (decimal_is_not_empty d lt)

tokens_of_decimal_before_comma : (d : ℕ) (rest : List ℕ) → d < 16 → tokens_after [] (decimal d ++ 44 ∷ rest) ≡ Word (decimal d) ∷ Comma ∷ tokens_after [] rest
tokens_of_decimal_before_comma d rest lt = tokens_of_word_before_comma [] (decimal d) rest (decimal_has_only_word_bytes d lt) ∙ word_token_before_if_not_empty (decimal d) (Comma ∷ tokens_after [] rest) (decimal_is_not_empty d lt)

decimal_parses_back : (n : ℕ) → n < 16 → asm.operand_of (decimal n) ≡ Some (asm.Number n)
unfolding digits is_number_operand
decimal_parses_back n lt = operand_is_number_if_test_true n (asm.operand_of (decimal n)) (test_true_below_limit (λ n. is_number_operand n (asm.operand_of (decimal n))) 16 refl n lt)

hex_byte_parses_back : (b : ℕ) → b < 256 → asm.operand_of (48 ∷ 120 ∷ two_hex_digits b) ≡ Some (asm.Number b)
hex_byte_parses_back b lt =
    let high : b / 16 < 16 = omega arith in
    let last : b % 16 < 16 = omega arith in
    let same : min ((0 * 16 + b / 16) * 16 + b % 16) 4294967296 ≡ b = omega arith in
    rw (value_of_hex_digit (b / 16) high, value_of_hex_digit (b % 16) last, lt-ltb _ _ high, lt-ltb _ _ last) (rw same refl)

address_parses_back : (p b : ℕ) → p < 16 → b < 256 → asm.operand_of (address p b) ≡ Some (asm.Number (p * 256 + b))
address_parses_back p b lp lt =
    let high : b / 16 < 16 = omega arith in
    let last : b % 16 < 16 = omega arith in
    let same : min (((0 * 16 + p) * 16 + b / 16) * 16 + b % 16) 4294967296 ≡ p * 256 + b = omega arith in
    rw (value_of_hex_digit p lp, value_of_hex_digit (b / 16) high, value_of_hex_digit (b % 16) last, lt-ltb _ _ lp, lt-ltb _ _ high, lt-ltb _ _ last) (rw same refl)

number_in_address_text : (p b n : ℕ) → p < 16 → b < 256 → n ≡ p * 256 + b → ◌>>=◌ (number_in_word (address p b)) (λ k. Some (capped_number k)) ≡ Some n
number_in_address_text p b n lp lt e =
    let high : b / 16 < 16 = omega arith in
    let last : b % 16 < 16 = omega arith in
    let same : min (((0 * 16 + p) * 16 + b / 16) * 16 + b % 16) 4294967296 ≡ n = omega arith in
    rw (value_of_hex_digit p lp, value_of_hex_digit (b / 16) high, value_of_hex_digit (b % 16) last, lt-ltb _ _ lp, lt-ltb _ _ high, lt-ltb _ _ last) (rw same refl)

pub reachable_page_is_below_16 : (at : ℕ) → reachable_page at < 16
reachable_page_is_below_16 at = omega arith

tokens_of_address : (p b : ℕ) → p < 16 → b < 256 → tokens_after [] (address p b) ≡ Word (address p b) ∷ []
unfolding tokens_after
tokens_of_address p b lp lt =
    let high : b / 16 < 16 = omega arith in
    let last : b % 16 < 16 = omega arith in
    rw (hex_digit_is_word_byte p lp, hex_digit_is_word_byte (b / 16) high, hex_digit_is_word_byte (b % 16) last) refl

tokens_of_hex_byte : (b : ℕ) → b < 256 → tokens_after [] (48 ∷ 120 ∷ two_hex_digits b) ≡ Word (48 ∷ 120 ∷ two_hex_digits b) ∷ []
unfolding tokens_after
tokens_of_hex_byte b lt =
    let high : b / 16 < 16 = omega arith in
    let last : b % 16 < 16 = omega arith in
    rw (hex_digit_is_word_byte (b / 16) high, hex_digit_is_word_byte (b % 16) last) refl

line_of_instruction_tokens : (at : ℕ) (o : Op) → HasOperandsInRange o → asm.line_of (tokens_after [] (instruction_text at o)) ≡ Some (asm.Code None (Some (statement at o)))
unfolding tokens_after asm.statement_of asm.operands_of mnemonic_of mnemonic_in_group1 mnemonic_in_group2 mnemonic_in_group3 mnemonic_in_group4 mnemonic_in_group5 mnemonic_in_group6
line_of_instruction_tokens at Nop h = refl
line_of_instruction_tokens at Wrm h = refl
line_of_instruction_tokens at Wmp h = refl
line_of_instruction_tokens at Wrr h = refl
line_of_instruction_tokens at Wr0 h = refl
line_of_instruction_tokens at Wr1 h = refl
line_of_instruction_tokens at Wr2 h = refl
line_of_instruction_tokens at Wr3 h = refl
line_of_instruction_tokens at Sbm h = refl
line_of_instruction_tokens at Rdm h = refl
line_of_instruction_tokens at Rdr h = refl
line_of_instruction_tokens at Adm h = refl
line_of_instruction_tokens at Rd0 h = refl
line_of_instruction_tokens at Rd1 h = refl
line_of_instruction_tokens at Rd2 h = refl
line_of_instruction_tokens at Rd3 h = refl
line_of_instruction_tokens at Clb h = refl
line_of_instruction_tokens at Clc h = refl
line_of_instruction_tokens at Iac h = refl
line_of_instruction_tokens at Cmc h = refl
line_of_instruction_tokens at Cma h = refl
line_of_instruction_tokens at Ral h = refl
line_of_instruction_tokens at Rar h = refl
line_of_instruction_tokens at Tcc h = refl
line_of_instruction_tokens at Dac h = refl
line_of_instruction_tokens at Tcs h = refl
line_of_instruction_tokens at Stc h = refl
line_of_instruction_tokens at Daa h = refl
line_of_instruction_tokens at Kbp h = refl
line_of_instruction_tokens at Dcl h = refl
line_of_instruction_tokens at (Inc r) h = rw (tokens_of_word_at_line_end (82 ∷ []) (decimal r) (decimal_has_only_word_bytes r h), small_decimal_parses_back r h) refl
line_of_instruction_tokens at (Add r) h = rw (tokens_of_word_at_line_end (82 ∷ []) (decimal r) (decimal_has_only_word_bytes r h), small_decimal_parses_back r h) refl
line_of_instruction_tokens at (Sub r) h = rw (tokens_of_word_at_line_end (82 ∷ []) (decimal r) (decimal_has_only_word_bytes r h), small_decimal_parses_back r h) refl
line_of_instruction_tokens at (Ld r) h = rw (tokens_of_word_at_line_end (82 ∷ []) (decimal r) (decimal_has_only_word_bytes r h), small_decimal_parses_back r h) refl
line_of_instruction_tokens at (Xch r) h = rw (tokens_of_word_at_line_end (82 ∷ []) (decimal r) (decimal_has_only_word_bytes r h), small_decimal_parses_back r h) refl
line_of_instruction_tokens at (Src p) h = rw (tokens_of_word_at_line_end (80 ∷ []) (decimal p) (decimal_has_only_word_bytes p (omega (arith, h))), pair_parses_back p h) refl
line_of_instruction_tokens at (Fin p) h = rw (tokens_of_word_at_line_end (80 ∷ []) (decimal p) (decimal_has_only_word_bytes p (omega (arith, h))), pair_parses_back p h) refl
line_of_instruction_tokens at (Jin p) h = rw (tokens_of_word_at_line_end (80 ∷ []) (decimal p) (decimal_has_only_word_bytes p (omega (arith, h))), pair_parses_back p h) refl
line_of_instruction_tokens at (Bbl d) h = rw (tokens_of_decimal d h, decimal_parses_back d h) refl
line_of_instruction_tokens at (Ldm d) h = rw (tokens_of_decimal d h, decimal_parses_back d h) refl
line_of_instruction_tokens at (Jun p b) h = rw (tokens_of_address p b h.0 h.1, address_parses_back p b h.0 h.1) refl
line_of_instruction_tokens at (Jms p b) h = rw (tokens_of_address p b h.0 h.1, address_parses_back p b h.0 h.1) refl
line_of_instruction_tokens at (Fim p b) h = rw (tokens_of_word_before_comma (80 ∷ []) (decimal p) (32 ∷ 48 ∷ 120 ∷ two_hex_digits b) (decimal_has_only_word_bytes p (omega (arith, h.0))), pair_parses_back p h.0, tokens_of_hex_byte b h.1, hex_byte_parses_back b h.1) refl
line_of_instruction_tokens at (Isz r b) h = rw (tokens_of_word_before_comma (82 ∷ []) (decimal r) (32 ∷ address (reachable_page at) b) (decimal_has_only_word_bytes r h.0), small_decimal_parses_back r h.0, tokens_of_address (reachable_page at) b (reachable_page_is_below_16 at) h.1, address_parses_back (reachable_page at) b (reachable_page_is_below_16 at) h.1) refl
line_of_instruction_tokens at (Jcn c b) h = rw (tokens_of_decimal_before_comma c (32 ∷ address (reachable_page at) b) h.0, decimal_parses_back c h.0, tokens_of_address (reachable_page at) b (reachable_page_is_below_16 at) h.1, address_parses_back (reachable_page at) b (reachable_page_is_below_16 at) h.1) refl

pub instruction_text_parses_back : (at : ℕ) (o : Op) → HasOperandsInRange o → TextParsesToStatement at o
instruction_text_parses_back at o h = ap asm.line_of (tokens_byte_by_byte (instruction_text at o)) ∙ line_of_instruction_tokens at o h

-- ---- the statement of an instruction emits the words that encode the instruction

target_is_on_reachable_page : (at b : ℕ) → b < 256 → eqb ((reachable_page at * 256 + b) / 256) (reachable_page at) ≡ true
target_is_on_reachable_page at b lt = eq-eqb ((reachable_page at * 256 + b) / 256) (reachable_page at) (omega arith)

pub statement_emits_encoding : (at : ℕ) (o : Op) (names : Names) → HasOperandsInRange o → statement_bytes at names (statement at o) ≡ Ok (spelling o)
statement_emits_encoding at (Jcn c b) names h =
    let t : reachable_page at * 256 + b < 4096 = omega (arith, reachable_page_is_below_16 at, h.1) in
    let low : (reachable_page at * 256 + b) % 256 ≡ b = omega (arith, h.1) in
    rw (lt-ltb c 16 h.0, lt-ltb _ _ t, target_is_on_reachable_page at b h.1, low) refl
statement_emits_encoding at (Isz r b) names h =
    let t : reachable_page at * 256 + b < 4096 = omega (arith, reachable_page_is_below_16 at, h.1) in
    let low : (reachable_page at * 256 + b) % 256 ≡ b = omega (arith, h.1) in
    rw (lt-ltb _ _ t, target_is_on_reachable_page at b h.1, low) refl
statement_emits_encoding at (Fim p b) names h = rw (lt-ltb b 256 h.1) refl
statement_emits_encoding at (Jun p b) names h =
    let t : p * 256 + b < 4096 = omega (arith, h.0, h.1) in
    let high : (p * 256 + b) / 256 ≡ p = omega (arith, h.1) in
    let low : (p * 256 + b) % 256 ≡ b = omega (arith, h.1) in
    rw (lt-ltb _ _ t, high, low) refl
statement_emits_encoding at (Jms p b) names h =
    let t : p * 256 + b < 4096 = omega (arith, h.0, h.1) in
    let high : (p * 256 + b) / 256 ≡ p = omega (arith, h.1) in
    let low : (p * 256 + b) % 256 ≡ b = omega (arith, h.1) in
    rw (lt-ltb _ _ t, high, low) refl
statement_emits_encoding at (Bbl d) names h = rw (lt-ltb d 16 h) refl
statement_emits_encoding at (Ldm d) names h = rw (lt-ltb d 16 h) refl
statement_emits_encoding at Nop names h = refl
statement_emits_encoding at Wrm names h = refl
statement_emits_encoding at Wmp names h = refl
statement_emits_encoding at Wrr names h = refl
statement_emits_encoding at Wr0 names h = refl
statement_emits_encoding at Wr1 names h = refl
statement_emits_encoding at Wr2 names h = refl
statement_emits_encoding at Wr3 names h = refl
statement_emits_encoding at Sbm names h = refl
statement_emits_encoding at Rdm names h = refl
statement_emits_encoding at Rdr names h = refl
statement_emits_encoding at Adm names h = refl
statement_emits_encoding at Rd0 names h = refl
statement_emits_encoding at Rd1 names h = refl
statement_emits_encoding at Rd2 names h = refl
statement_emits_encoding at Rd3 names h = refl
statement_emits_encoding at Clb names h = refl
statement_emits_encoding at Clc names h = refl
statement_emits_encoding at Iac names h = refl
statement_emits_encoding at Cmc names h = refl
statement_emits_encoding at Cma names h = refl
statement_emits_encoding at Ral names h = refl
statement_emits_encoding at Rar names h = refl
statement_emits_encoding at Tcc names h = refl
statement_emits_encoding at Dac names h = refl
statement_emits_encoding at Tcs names h = refl
statement_emits_encoding at Stc names h = refl
statement_emits_encoding at Daa names h = refl
statement_emits_encoding at Kbp names h = refl
statement_emits_encoding at Dcl names h = refl
statement_emits_encoding at (Inc r) names h = refl
statement_emits_encoding at (Add r) names h = refl
statement_emits_encoding at (Sub r) names h = refl
statement_emits_encoding at (Ld r) names h = refl
statement_emits_encoding at (Xch r) names h = refl
statement_emits_encoding at (Src r) names h = refl
statement_emits_encoding at (Fin r) names h = refl
statement_emits_encoding at (Jin r) names h = refl

line_of_byte_tokens : (b : ℕ) → b < 256 → asm.line_of (tokens_after [] (byte_text b)) ≡ Some (asm.Code None (Some (asm.Data (asm.Number b ∷ []))))
unfolding tokens_after asm.statement_of asm.operands_of mnemonic_of mnemonic_in_group1
line_of_byte_tokens b lt = rw (tokens_of_hex_byte b lt, hex_byte_parses_back b lt) refl

pub byte_parses_back : (b : ℕ) → b < 256 → asm.line_of (tokens (byte_text b)) ≡ Some (asm.Code None (Some (asm.Data (asm.Number b ∷ []))))
byte_parses_back b lt = ap asm.line_of (tokens_byte_by_byte (byte_text b)) ∙ line_of_byte_tokens b lt

pub statement_size_is_word_count : (at : ℕ) (o : Op) → size (statement at o) ≡ word_count_of o
statement_size_is_word_count at Nop = refl
statement_size_is_word_count at Wrm = refl
statement_size_is_word_count at Wmp = refl
statement_size_is_word_count at Wrr = refl
statement_size_is_word_count at Wr0 = refl
statement_size_is_word_count at Wr1 = refl
statement_size_is_word_count at Wr2 = refl
statement_size_is_word_count at Wr3 = refl
statement_size_is_word_count at Sbm = refl
statement_size_is_word_count at Rdm = refl
statement_size_is_word_count at Rdr = refl
statement_size_is_word_count at Adm = refl
statement_size_is_word_count at Rd0 = refl
statement_size_is_word_count at Rd1 = refl
statement_size_is_word_count at Rd2 = refl
statement_size_is_word_count at Rd3 = refl
statement_size_is_word_count at Clb = refl
statement_size_is_word_count at Clc = refl
statement_size_is_word_count at Iac = refl
statement_size_is_word_count at Cmc = refl
statement_size_is_word_count at Cma = refl
statement_size_is_word_count at Ral = refl
statement_size_is_word_count at Rar = refl
statement_size_is_word_count at Tcc = refl
statement_size_is_word_count at Dac = refl
statement_size_is_word_count at Tcs = refl
statement_size_is_word_count at Stc = refl
statement_size_is_word_count at Daa = refl
statement_size_is_word_count at Kbp = refl
statement_size_is_word_count at Dcl = refl
statement_size_is_word_count at (Inc r) = refl
statement_size_is_word_count at (Add r) = refl
statement_size_is_word_count at (Sub r) = refl
statement_size_is_word_count at (Ld r) = refl
statement_size_is_word_count at (Xch r) = refl
statement_size_is_word_count at (Src r) = refl
statement_size_is_word_count at (Fin r) = refl
statement_size_is_word_count at (Jin r) = refl
statement_size_is_word_count at (Bbl r) = refl
statement_size_is_word_count at (Ldm r) = refl
statement_size_is_word_count at (Jcn r b) = refl
statement_size_is_word_count at (Fim r b) = refl
statement_size_is_word_count at (Jun r b) = refl
statement_size_is_word_count at (Jms r b) = refl
statement_size_is_word_count at (Isz r b) = refl

pub next_address_after_instruction : (at a : ℕ) (o : Op) → address_after_statement (Some (statement at o)) a ≡ a + word_count_of o
next_address_after_instruction at a Nop = refl
next_address_after_instruction at a Wrm = refl
next_address_after_instruction at a Wmp = refl
next_address_after_instruction at a Wrr = refl
next_address_after_instruction at a Wr0 = refl
next_address_after_instruction at a Wr1 = refl
next_address_after_instruction at a Wr2 = refl
next_address_after_instruction at a Wr3 = refl
next_address_after_instruction at a Sbm = refl
next_address_after_instruction at a Rdm = refl
next_address_after_instruction at a Rdr = refl
next_address_after_instruction at a Adm = refl
next_address_after_instruction at a Rd0 = refl
next_address_after_instruction at a Rd1 = refl
next_address_after_instruction at a Rd2 = refl
next_address_after_instruction at a Rd3 = refl
next_address_after_instruction at a Clb = refl
next_address_after_instruction at a Clc = refl
next_address_after_instruction at a Iac = refl
next_address_after_instruction at a Cmc = refl
next_address_after_instruction at a Cma = refl
next_address_after_instruction at a Ral = refl
next_address_after_instruction at a Rar = refl
next_address_after_instruction at a Tcc = refl
next_address_after_instruction at a Dac = refl
next_address_after_instruction at a Tcs = refl
next_address_after_instruction at a Stc = refl
next_address_after_instruction at a Daa = refl
next_address_after_instruction at a Kbp = refl
next_address_after_instruction at a Dcl = refl
next_address_after_instruction at a (Inc r) = refl
next_address_after_instruction at a (Add r) = refl
next_address_after_instruction at a (Sub r) = refl
next_address_after_instruction at a (Ld r) = refl
next_address_after_instruction at a (Xch r) = refl
next_address_after_instruction at a (Src r) = refl
next_address_after_instruction at a (Fin r) = refl
next_address_after_instruction at a (Jin r) = refl
next_address_after_instruction at a (Bbl r) = refl
next_address_after_instruction at a (Ldm r) = refl
next_address_after_instruction at a (Jcn r b) = refl
next_address_after_instruction at a (Fim r b) = refl
next_address_after_instruction at a (Jun r b) = refl
next_address_after_instruction at a (Jms r b) = refl
next_address_after_instruction at a (Isz r b) = refl

pub origin_is_not_bad : (at : ℕ) (o : Op) → is_bad_origin (Some (statement at o)) ≡ false
origin_is_not_bad at Nop = refl
origin_is_not_bad at Wrm = refl
origin_is_not_bad at Wmp = refl
origin_is_not_bad at Wrr = refl
origin_is_not_bad at Wr0 = refl
origin_is_not_bad at Wr1 = refl
origin_is_not_bad at Wr2 = refl
origin_is_not_bad at Wr3 = refl
origin_is_not_bad at Sbm = refl
origin_is_not_bad at Rdm = refl
origin_is_not_bad at Rdr = refl
origin_is_not_bad at Adm = refl
origin_is_not_bad at Rd0 = refl
origin_is_not_bad at Rd1 = refl
origin_is_not_bad at Rd2 = refl
origin_is_not_bad at Rd3 = refl
origin_is_not_bad at Clb = refl
origin_is_not_bad at Clc = refl
origin_is_not_bad at Iac = refl
origin_is_not_bad at Cmc = refl
origin_is_not_bad at Cma = refl
origin_is_not_bad at Ral = refl
origin_is_not_bad at Rar = refl
origin_is_not_bad at Tcc = refl
origin_is_not_bad at Dac = refl
origin_is_not_bad at Tcs = refl
origin_is_not_bad at Stc = refl
origin_is_not_bad at Daa = refl
origin_is_not_bad at Kbp = refl
origin_is_not_bad at Dcl = refl
origin_is_not_bad at (Inc r) = refl
origin_is_not_bad at (Add r) = refl
origin_is_not_bad at (Sub r) = refl
origin_is_not_bad at (Ld r) = refl
origin_is_not_bad at (Xch r) = refl
origin_is_not_bad at (Src r) = refl
origin_is_not_bad at (Fin r) = refl
origin_is_not_bad at (Jin r) = refl
origin_is_not_bad at (Bbl r) = refl
origin_is_not_bad at (Ldm r) = refl
origin_is_not_bad at (Jcn r b) = refl
origin_is_not_bad at (Fim r b) = refl
origin_is_not_bad at (Jun r b) = refl
origin_is_not_bad at (Jms r b) = refl
origin_is_not_bad at (Isz r b) = refl

line_of_origin_tokens : (from : ℕ) → from < 4096 → asm.line_of (tokens_after [] (origin_text from)) ≡ Some (asm.Code None (Some (asm.Origin from)))
unfolding tokens_after asm.statement_of mnemonic_of mnemonic_in_group1
line_of_origin_tokens from lt =
    let p : from / 256 < 16 = omega arith in
    let b : from % 256 < 256 = omega arith in
    rw (tokens_of_address (from / 256) (from % 256) p b, number_in_address_text (from / 256) (from % 256) from p b (omega arith)) refl

pub origin_parses_back : (from : ℕ) → from < 4096 → asm.line_of (tokens (origin_text from)) ≡ Some (asm.Code None (Some (asm.Origin from)))
origin_parses_back from lt = ap asm.line_of (tokens_byte_by_byte (origin_text from)) ∙ line_of_origin_tokens from lt
