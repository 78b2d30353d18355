use Rattle.std.proofs.Common.{◌≡◌, ◌++◌, string_bytes, take}
use Rattle.std.specs.List.{flat_map}
use Rattle.mcs_wiring.specs.BoardText.{lamp_lines}
use Rattle.mcs_model.specs.TextLines.{text_of}
use Rattle.mcs_wiring.proofs.writing.push_lamps.Given as goal

abbrev pub invariant-loop-line : goal.invariant-loop-line
invariant-loop-line l = string_bytes l.out ≡ string_bytes l.initial.out ++ flat_map (λ x. text_of (lamp_lines x)) (take l.line-index l.lamps)
