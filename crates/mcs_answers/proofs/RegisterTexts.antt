-- If all parts of the registers' text are appended in order, the whole text is appended.
use Rattle.std.proofs.Common.{◌≡◌, ℕ, List, ◌++◌, codes, map, ◌∙◌, append_assoc}
use Rattle.mcs_model.specs.declared.regs.Regs.{Regs}
use Rattle.mcs_model.specs.QueryText.{address_text, digit_text, hex_digit, registers_text}
use Rattle.mcs_answers.proofs.AppendedTexts.{append_one_piece, append_two_pieces}

pub registers_text_from_parts : (old : List ℕ) (regs : Regs) (test : ℕ) (n1 n2 n3 n4 n5 n6 n7 n8 : List ℕ)
    → n1 ≡ old ++ codes "acc " ++ digit_text regs.acc
    → n2 ≡ n1 ++ codes " cy " ++ digit_text regs.cy
    → n3 ≡ n2 ++ codes " pc " ++ address_text regs.pc
    → n4 ≡ n3 ++ codes " owed " ++ digit_text regs.owed
    → n5 ≡ n4 ++ codes " dcl " ++ digit_text regs.dcl
    → n6 ≡ n5 ++ codes " test " ++ digit_text test
    → n7 ≡ n6 ++ codes " r "
    → n8 ≡ n7 ++ map hex_digit regs.r
    → n8 ≡ old ++ registers_text regs test
registers_text_from_parts old regs test n1 n2 n3 n4 n5 n6 n7 n8 e1 e2 e3 e4 e5 e6 e7 e8 =
    let p1 = codes "acc " ++ digit_text regs.acc in
    let p2 = p1 ++ codes " cy " ++ digit_text regs.cy in
    let p3 = p2 ++ codes " pc " ++ address_text regs.pc in
    let p4 = p3 ++ codes " owed " ++ digit_text regs.owed in
    let p5 = p4 ++ codes " dcl " ++ digit_text regs.dcl in
    let p6 = p5 ++ codes " test " ++ digit_text test in
    let h1 : n1 ≡ old ++ p1 = e1 ∙ append_assoc old (codes "acc ") (digit_text regs.acc) in
    let h2 = append_two_pieces old p1 n1 (codes " cy ") (digit_text regs.cy) n2 h1 e2 in
    let h3 = append_two_pieces old p2 n2 (codes " pc ") (address_text regs.pc) n3 h2 e3 in
    let h4 = append_two_pieces old p3 n3 (codes " owed ") (digit_text regs.owed) n4 h3 e4 in
    let h5 = append_two_pieces old p4 n4 (codes " dcl ") (digit_text regs.dcl) n5 h4 e5 in
    let h6 = append_two_pieces old p5 n5 (codes " test ") (digit_text test) n6 h5 e6 in
    let h7 = append_one_piece old p6 n6 (codes " r ") n7 h6 e7 in
    append_one_piece old (p6 ++ codes " r ") n7 (map hex_digit regs.r) n8 h7 e8
