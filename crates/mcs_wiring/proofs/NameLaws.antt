-- The name of a line parses as that line, and the text of a port parses as its masks.
use Rattle.std.proofs.Common.{◌≡◌, ℕ, zero, suc, ◌+◌, ◌<◌, Bool, true, false, ◌&&◌, [], ◌∷◌, Option, Some, None, eqb, ltb, refl, ap, ◌∙◌, arith}
use Rattle.std.proofs.lemmas.Bool.{and_parts, false≢true, eqb-true, ltb-true}
use Rattle.std.specs.List.{list_all, range_with_len}
use Rattle.std.specs.Fmt.{digits}
use Rattle.mcs_nibble.specs.declared.lines.LineMask.{LineMask}
use Rattle.mcs_model.specs.declared.board.Line.{Line}
use Rattle.mcs_model.specs.declared.board.Line.TheVariants.{Rom, Ram, Chain}
use Rattle.mcs_model.specs.declared.limits.TheConstants.{ROMS, BANKS, BANK_CHIPS, CHAINS, CHAIN_BITS}
use Rattle.mcs_model.specs.Boards.{in_range}
use Rattle.mcs_wiring.specs.LineNames.{line_name, line_named, masks_named, port_text}
use Rattle.mcs_nibble.proofs.PortLemmas.{mask_of-mask_character}

-- ---- ports

pub port_text_parses_back : (m0 m1 m2 m3 : LineMask) → masks_named (port_text (m0 ∷ m1 ∷ m2 ∷ m3 ∷ [])) ≡ Some (m0 ∷ m1 ∷ m2 ∷ m3 ∷ [])
port_text_parses_back m0 m1 m2 m3 = rw (mask_of-mask_character m0, mask_of-mask_character m1, mask_of-mask_character m2, mask_of-mask_character m3) refl

-- ---- lines: the proof parses the name of every line in range

abbrev same_line : Option Line → Line → Bool
same_line (Some (Rom a b)) (Rom c d) = eqb a c && eqb b d
same_line (Some (Ram a b c)) (Ram d e f) = (eqb a d && eqb b e) && eqb c f
same_line (Some (Chain a b)) (Chain c d) = eqb a c && eqb b d
same_line o l = false

abbrev parses_back : Line → Bool
parses_back l = same_line (line_named (line_name l)) l

rom_lines_parse_back : list_all (λ chip. list_all (λ k. parses_back (Rom chip k)) (range_with_len 0 4)) (range_with_len 0 ROMS) ≡ true
unfolding digits
rom_lines_parse_back = refl

ram_lines_parse_back : list_all (λ bank. list_all (λ chip. list_all (λ k. parses_back (Ram bank chip k)) (range_with_len 0 4)) (range_with_len 0 BANK_CHIPS)) (range_with_len 0 BANKS) ≡ true
unfolding digits
ram_lines_parse_back = refl

chain_lines_parse_back : list_all (λ n. list_all (λ i. parses_back (Chain n i)) (range_with_len 0 CHAIN_BITS)) (range_with_len 0 CHAINS) ≡ true
unfolding digits
chain_lines_parse_back = refl

-- ---- if `list_all` is true for a range, the test is true for each number in the range

test_true_for_each_in_range : (p : ℕ → Bool) (a n k : ℕ) → list_all p (range_with_len a n) ≡ true → k < n → p (a + k) ≡ true
test_true_for_each_in_range p a zero k h lt = absurd (omega arith)
test_true_for_each_in_range p a (suc n) zero h lt =
    let (here, _) = and_parts (p a) (list_all p (range_with_len (a + 1) n)) h in
    let plus_zero : a + 0 ≡ a = omega arith in
    ap p plus_zero ∙ here
test_true_for_each_in_range p a (suc n) (suc k) h lt =
    let (_, later) = and_parts (p a) (list_all p (range_with_len (a + 1) n)) h in
    let plus_suc : a + suc k ≡ (a + 1) + k = omega arith in
    ap p plus_suc ∙ test_true_for_each_in_range p (a + 1) n k later (omega arith)

test_true_if_below_limit : (p : ℕ → Bool) (n k : ℕ) → list_all p (range_with_len 0 n) ≡ true → ltb k n ≡ true → p k ≡ true
test_true_if_below_limit p n k h below =
    let lt : k < n = ltb-true k n below in
    let zero_plus : k ≡ 0 + k = omega arith in
    ap p zero_plus ∙ test_true_for_each_in_range p 0 n k h lt

same_line_is_equal : (o : Option Line) (l : Line) → same_line o l ≡ true → o ≡ Some l
same_line_is_equal None (Rom c d) h = absurd (false≢true h)
same_line_is_equal None (Ram d e f) h = absurd (false≢true h)
same_line_is_equal None (Chain c d) h = absurd (false≢true h)
same_line_is_equal (Some (Rom a b)) (Rom c d) h =
    let (x, y) = and_parts (eqb a c) (eqb b d) h in
    let p : a ≡ c = eqb-true a c x in
    let q : b ≡ d = eqb-true b d y in
    cc
same_line_is_equal (Some (Rom a b)) (Ram d e f) h = absurd (false≢true h)
same_line_is_equal (Some (Rom a b)) (Chain c d) h = absurd (false≢true h)
same_line_is_equal (Some (Ram a b c)) (Rom d e) h = absurd (false≢true h)
same_line_is_equal (Some (Ram a b c)) (Ram d e f) h =
    let (xy, z) = and_parts (eqb a d && eqb b e) (eqb c f) h in
    let (x, y) = and_parts (eqb a d) (eqb b e) xy in
    let p : a ≡ d = eqb-true a d x in
    let q : b ≡ e = eqb-true b e y in
    let r : c ≡ f = eqb-true c f z in
    cc
same_line_is_equal (Some (Ram a b c)) (Chain d e) h = absurd (false≢true h)
same_line_is_equal (Some (Chain a b)) (Rom c d) h = absurd (false≢true h)
same_line_is_equal (Some (Chain a b)) (Ram d e f) h = absurd (false≢true h)
same_line_is_equal (Some (Chain a b)) (Chain c d) h =
    let (x, y) = and_parts (eqb a c) (eqb b d) h in
    let p : a ≡ c = eqb-true a c x in
    let q : b ≡ d = eqb-true b d y in
    cc

pub line_name_parses_back : (l : Line) → in_range l ≡ true → line_named (line_name l) ≡ Some l
line_name_parses_back (Rom chip k) h =
    let (x, y) = and_parts (ltb chip ROMS) (ltb k 4) h in
    same_line_is_equal _ (Rom chip k) (test_true_if_below_limit (λ j. parses_back (Rom chip j)) 4 k (test_true_if_below_limit (λ c. list_all (λ j. parses_back (Rom c j)) (range_with_len 0 4)) ROMS chip rom_lines_parse_back x) y)
line_name_parses_back (Ram bank chip k) h =
    let (xy, z) = and_parts (ltb bank BANKS && ltb chip BANK_CHIPS) (ltb k 4) h in
    let (x, y) = and_parts (ltb bank BANKS) (ltb chip BANK_CHIPS) xy in
    let in_bank = test_true_if_below_limit (λ b. list_all (λ c. list_all (λ j. parses_back (Ram b c j)) (range_with_len 0 4)) (range_with_len 0 BANK_CHIPS)) BANKS bank ram_lines_parse_back x in
    let in_chip = test_true_if_below_limit (λ c. list_all (λ j. parses_back (Ram bank c j)) (range_with_len 0 4)) BANK_CHIPS chip in_bank y in
    same_line_is_equal _ (Ram bank chip k) (test_true_if_below_limit (λ j. parses_back (Ram bank chip j)) 4 k in_chip z)
line_name_parses_back (Chain n i) h =
    let (x, y) = and_parts (ltb n CHAINS) (ltb i CHAIN_BITS) h in
    let in_chain = test_true_if_below_limit (λ c. list_all (λ j. parses_back (Chain c j)) (range_with_len 0 CHAIN_BITS)) CHAINS n chain_lines_parse_back x in
    same_line_is_equal _ (Chain n i) (test_true_if_below_limit (λ j. parses_back (Chain n j)) CHAIN_BITS i in_chain y)
