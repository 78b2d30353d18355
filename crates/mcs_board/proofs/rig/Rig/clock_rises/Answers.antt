use Rattle.std.proofs.Common.{arith, ap, ◌∙◌}
use Rattle.mcs_model.specs.declared.board.BoardParts.{BoardParts}
use Rattle.mcs_model.specs.declared.board.ChainPart.{ChainPart}
use Rattle.mcs_model.specs.Boards.{chain_part, is_output_line}
use Rattle.mcs_board.specs.ClockEdges.{line_rises}
use Rattle.mcs_board.proofs.BoardLemmas.{clock_line-is_output}
use Rattle.mcs_board.proofs.rig.Rig.clock_rises.Goals as goal

pub line_rises-requires : goal.line_rises-requires
line_rises-requires g c =
    let s = c.args.self.now in
    let part = c.chain.ensures ∙ ap (λ (b : BoardParts). chain_part b c.args.i) c.board.ensures in
    (omega arith, ap (λ (p : ChainPart). is_output_line s.board p.clock) part ∙ clock_line-is_output s.board c.args.i c.parts-parts.ensures.valid c.requires)

pub returns : goal.returns
returns g c =
    let part = c.chain.ensures ∙ ap (λ (b : BoardParts). chain_part b c.args.i) c.board.ensures in
    c.line_rises.ensures ∙ ap (λ (p : ChainPart). line_rises c.args.port c.args.before c.args.after p.clock) part
