-- The text of an instruction does not contain a line end (LF or CR).
use Rattle.std.proofs.Common.{◌≡◌, ℕ, suc, zero, ◌-◌, ◌/◌, ◌%◌, ◌<◌, Bool, true, false, not, eqb, ◌&&◌, List, [], ◌∷◌, ◌++◌, length, get_or, refl, arith}
use Rattle.std.proofs.lemmas.Bool.{and_parts, not-true}
use Rattle.std.specs.List.{list_all}
use Rattle.std.specs.Fmt.{decimal, digits}
use Rattle.mcs_model.specs.QueryText.{two_hex_digits, hex_digit}
use Rattle.mcs_model.specs.declared.op.Op.{Op}
use Rattle.mcs_model.specs.declared.op.Op.TheVariants.{Nop, Jcn, Fim, Src, Fin, Jin, Jun, Jms, Inc, Isz, Add, Sub, Ld, Xch, Bbl, Ldm, Wrm, Wmp, Wrr, Wr0, Wr1, Wr2, Wr3, Sbm, Rdm, Rdr, Adm, Rd0, Rd1, Rd2, Rd3, Clb, Clc, Iac, Cmc, Cma, Ral, Rar, Tcc, Dac, Tcs, Stc, Daa, Kbp, Dcl}
use Rattle.mcs_source.specs.Assembly.{reachable_page}
use Rattle.mcs_source.specs.Text.{instruction_text, address, byte_text}
use Rattle.mcs_source.specs.Spelled.{HasOperandsInRange}
use Rattle.mcs_dis.proofs.ReadBack.{test_true_below_limit, reachable_page_is_below_16}
use Rattle.mcs_model.specs.Cutting.{HasNoSeparator}
use Rattle.mcs_model.specs.TextLines.{is_line_feed}
use Rattle.mcs_dis.proofs.LinesParseBack.{ends_in_cr, IsLine}

abbrev pub is_no_line_end : ℕ → Bool
is_no_line_end b = not (eqb b 10) && not (eqb b 13)

abbrev pub HasNoLineEnds : List ℕ → Type 0
HasNoLineEnds l = list_all is_no_line_end l ≡ true

byte_at_index_is_no_line_end : (l : List ℕ) (i : ℕ) → i < length l → HasNoLineEnds l → is_no_line_end (get_or l i 0) ≡ true
byte_at_index_is_no_line_end [] i lt all = absurd (omega (arith, lt))
byte_at_index_is_no_line_end (b ∷ l) zero lt all = (and_parts (is_no_line_end b) (list_all is_no_line_end l) all).0
byte_at_index_is_no_line_end (b ∷ l) (suc i) lt all = byte_at_index_is_no_line_end l i (omega (arith, lt)) (and_parts (is_no_line_end b) (list_all is_no_line_end l) all).1

does_not_end_in_cr : (l : List ℕ) → HasNoLineEnds l → ends_in_cr l ≡ false
does_not_end_in_cr [] all = refl
does_not_end_in_cr (b ∷ l) all =
    let last : ℕ = get_or (b ∷ l) (length (b ∷ l) - 1) 0 in
    not-true (eqb last 13) (and_parts (not (eqb last 10)) (not (eqb last 13)) (byte_at_index_is_no_line_end (b ∷ l) (length (b ∷ l) - 1) (omega arith) all)).1

contains_no_line_feed : (l : List ℕ) → HasNoLineEnds l → HasNoSeparator is_line_feed l
contains_no_line_feed [] all = tt
contains_no_line_feed (b ∷ l) all =
    let (here, more) = and_parts (is_no_line_end b) (list_all is_no_line_end l) all in
    (not-true (eqb b 10) (and_parts (not (eqb b 10)) (not (eqb b 13)) here).0, contains_no_line_feed l more)

pub is_line_if_no_line_ends : (l : List ℕ) → HasNoLineEnds l → IsLine l
is_line_if_no_line_ends l all = (contains_no_line_feed l all, does_not_end_in_cr l all)

no_line_ends_in_append : (xs ys : List ℕ) → HasNoLineEnds xs → HasNoLineEnds ys → HasNoLineEnds (xs ++ ys)
no_line_ends_in_append [] ys all more = more
no_line_ends_in_append (b ∷ xs) ys all more =
    let (here, others) = and_parts (is_no_line_end b) (list_all is_no_line_end xs) all in
    rw here (no_line_ends_in_append xs ys others more)

hex_digit_is_no_line_end : (d : ℕ) → d < 16 → is_no_line_end (hex_digit d) ≡ true
hex_digit_is_no_line_end d lt = test_true_below_limit (λ d. is_no_line_end (hex_digit d)) 16 refl d lt

no_line_ends_in_decimal : (d : ℕ) → d < 16 → HasNoLineEnds (decimal d)
unfolding digits
no_line_ends_in_decimal d lt = test_true_below_limit (λ d. list_all is_no_line_end (decimal d)) 16 refl d lt

no_line_ends_in_two_hex_digits : (b : ℕ) → b < 256 → HasNoLineEnds (two_hex_digits b)
no_line_ends_in_two_hex_digits b lt =
    let high : b / 16 < 16 = omega arith in
    let last : b % 16 < 16 = omega arith in
    rw (hex_digit_is_no_line_end (b / 16) high, hex_digit_is_no_line_end (b % 16) last) refl

pub no_line_ends_in_address : (p b : ℕ) → p < 16 → b < 256 → HasNoLineEnds (address p b)
no_line_ends_in_address p b lp lt = rw (hex_digit_is_no_line_end p lp) (no_line_ends_in_two_hex_digits b lt)

pub no_line_ends_in_byte_text : (b : ℕ) → b < 256 → HasNoLineEnds (byte_text b)
no_line_ends_in_byte_text b lt = no_line_ends_in_two_hex_digits b lt

pub no_line_ends_in_instruction_text : (at : ℕ) (o : Op) → HasOperandsInRange o → HasNoLineEnds (instruction_text at o)
no_line_ends_in_instruction_text at Nop h = refl
no_line_ends_in_instruction_text at Wrm h = refl
no_line_ends_in_instruction_text at Wmp h = refl
no_line_ends_in_instruction_text at Wrr h = refl
no_line_ends_in_instruction_text at Wr0 h = refl
no_line_ends_in_instruction_text at Wr1 h = refl
no_line_ends_in_instruction_text at Wr2 h = refl
no_line_ends_in_instruction_text at Wr3 h = refl
no_line_ends_in_instruction_text at Sbm h = refl
no_line_ends_in_instruction_text at Rdm h = refl
no_line_ends_in_instruction_text at Rdr h = refl
no_line_ends_in_instruction_text at Adm h = refl
no_line_ends_in_instruction_text at Rd0 h = refl
no_line_ends_in_instruction_text at Rd1 h = refl
no_line_ends_in_instruction_text at Rd2 h = refl
no_line_ends_in_instruction_text at Rd3 h = refl
no_line_ends_in_instruction_text at Clb h = refl
no_line_ends_in_instruction_text at Clc h = refl
no_line_ends_in_instruction_text at Iac h = refl
no_line_ends_in_instruction_text at Cmc h = refl
no_line_ends_in_instruction_text at Cma h = refl
no_line_ends_in_instruction_text at Ral h = refl
no_line_ends_in_instruction_text at Rar h = refl
no_line_ends_in_instruction_text at Tcc h = refl
no_line_ends_in_instruction_text at Dac h = refl
no_line_ends_in_instruction_text at Tcs h = refl
no_line_ends_in_instruction_text at Stc h = refl
no_line_ends_in_instruction_text at Daa h = refl
no_line_ends_in_instruction_text at Kbp h = refl
no_line_ends_in_instruction_text at Dcl h = refl
no_line_ends_in_instruction_text at (Inc r) h = no_line_ends_in_decimal r h
no_line_ends_in_instruction_text at (Add r) h = no_line_ends_in_decimal r h
no_line_ends_in_instruction_text at (Sub r) h = no_line_ends_in_decimal r h
no_line_ends_in_instruction_text at (Ld r) h = no_line_ends_in_decimal r h
no_line_ends_in_instruction_text at (Xch r) h = no_line_ends_in_decimal r h
no_line_ends_in_instruction_text at (Bbl r) h = no_line_ends_in_decimal r h
no_line_ends_in_instruction_text at (Ldm r) h = no_line_ends_in_decimal r h
no_line_ends_in_instruction_text at (Src p) h = no_line_ends_in_decimal p (omega (arith, h))
no_line_ends_in_instruction_text at (Fin p) h = no_line_ends_in_decimal p (omega (arith, h))
no_line_ends_in_instruction_text at (Jin p) h = no_line_ends_in_decimal p (omega (arith, h))
no_line_ends_in_instruction_text at (Jun p b) h = no_line_ends_in_address p b h.0 h.1
no_line_ends_in_instruction_text at (Jms p b) h = no_line_ends_in_address p b h.0 h.1
no_line_ends_in_instruction_text at (Fim p b) h = no_line_ends_in_append (decimal p) (44 ∷ 32 ∷ 48 ∷ 120 ∷ two_hex_digits b) (no_line_ends_in_decimal p (omega (arith, h.0))) (no_line_ends_in_two_hex_digits b h.1)
no_line_ends_in_instruction_text at (Jcn c b) h = no_line_ends_in_append (decimal c) (44 ∷ 32 ∷ address (reachable_page at) b) (no_line_ends_in_decimal c h.0) (no_line_ends_in_address (reachable_page at) b (reachable_page_is_below_16 at) h.1)
no_line_ends_in_instruction_text at (Isz r b) h = no_line_ends_in_append (decimal r) (44 ∷ 32 ∷ address (reachable_page at) b) (no_line_ends_in_decimal r h.0) (no_line_ends_in_address (reachable_page at) b (reachable_page_is_below_16 at) h.1)
