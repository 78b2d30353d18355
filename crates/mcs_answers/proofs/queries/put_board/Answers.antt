use Rattle.std.proofs.Common.{◌≡◌, ◌++◌, codes, ap, ◌∙◌, ℕ, Vec, Global}
use Rattle.mcs_model.specs.TextLines.{as_line}
use Rattle.mcs_wiring.specs.BoardText.{board_text}
use Rattle.mcs_answers.proofs.queries.put_board.Goals as goal

pub returns : goal.returns
returns c =
    let text : c.into_bytes.result.items ≡ board_text c.args.bench.now.bus.board =
    ap (λ (v : Vec ℕ Global). v.items) c.into_bytes.ensures.value ∙ c.in_ok-board_text.ensures ∙ ap board_text c.board.ensures in
    let line : c.put.new.answer.items ≡ as_line (codes "board") = c.put.ensures.text ∙ ap (λ v. v ++ as_line (codes "board")) c.requires in
    ap (λ v. v ++ c.into_bytes.result.items) line
    ∙ ap (λ v. as_line (codes "board") ++ v) text
