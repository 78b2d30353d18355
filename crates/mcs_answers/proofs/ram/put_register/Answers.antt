use Rattle.std.proofs.Common.{◌+◌, ◌*◌, ◌∷◌, [], ◌++◌, codes, map, sym, append-nil}
use Rattle.mcs_model.specs.QueryText.{digit_text, hex_digit, sublist}
use Rattle.mcs_answers.proofs.AppendedTexts.{append_one_piece, append_two_pieces}
use Rattle.mcs_answers.proofs.ram.put_register.Goals as goal

pub returns-clause-text : goal.returns-clause-text
returns-clause-text c =
    let old = c.args.answer.now.items in
    let name = digit_text c.args.bank ++ codes "." ++ digit_text c.args.chip ++ codes "." ++ digit_text c.args.r in
    let main = map hex_digit (sublist c.args.bench.now.bus.ram (c.args.bank * 256 + c.args.chip * 64 + c.args.r * 16) 16) in
    let status = map hex_digit (sublist c.args.bench.now.bus.status (c.args.bank * 64 + c.args.chip * 16 + c.args.r * 4) 4) in
    let e1 = append_two_pieces old [] old [] (digit_text c.args.bank) _ (sym (append-nil old)) c.put_digit.ensures.text in
    let e2 = append_two_pieces old (digit_text c.args.bank) _ (codes ".") (digit_text c.args.chip) _ e1 c.put_digit-2.ensures.text in
    let e3 = append_two_pieces old (digit_text c.args.bank ++ codes "." ++ digit_text c.args.chip) _ (codes ".") (digit_text c.args.r) _ e2 c.put_digit-3.ensures.text in
    let e4 = append_one_piece old name _ (codes " ") _ e3 c.put.ensures.text in
    let e5 = append_one_piece old (name ++ codes " ") _ main _ e4 c.put_ram_nibbles.ensures.text in
    let e6 = append_one_piece old (name ++ codes " " ++ main) _ (codes " ") _ e5 c.put-2.ensures.text in
    let e7 = append_one_piece old (name ++ codes " " ++ main ++ codes " ") _ status _ e6 c.put_status.ensures.text in
    append_one_piece old (name ++ codes " " ++ main ++ codes " " ++ status) _ (10 ∷ []) _ e7 c.put-3.ensures.text
