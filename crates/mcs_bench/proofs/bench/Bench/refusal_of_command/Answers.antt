use Rattle.std.proofs.Common.{◌∙◌, Bool, Some, None, sym, ap, if◌then◌else◌}
use Rattle.std.specs.List.{list_any}
use Rattle.mcs_model.specs.declared.board.BoardParts.{BoardParts}
use Rattle.mcs_model.specs.declared.refusals.BenchFault.TheVariants.{NoRom}
use Rattle.mcs_model.specs.Command.{lacks_rom, refusal_of_command}
use Rattle.mcs_model.specs.BenchState.{BenchState}
use Rattle.mcs_bench.proofs.bench.Bench.refusal_of_command.Goals as goal

pub returns-in-Load : goal.returns-in-Load
returns-in-Load c =
    let board = c.board-board.ensures ∙ ap (λ (s : BenchState). s.bus.board) c.self.view_is in
    let lacking = c.image_lacks_rom.ensures ∙ ap (λ (b : BoardParts). list_any (λ p. lacks_rom b p.0) c.in-Load.image) board in
    c.fault_if.ensures ∙ ap (λ (b : Bool). if b then Some NoRom else None) lacking ∙ sym (ap (refusal_of_command c.args.self.now) c.in-Load.is)
