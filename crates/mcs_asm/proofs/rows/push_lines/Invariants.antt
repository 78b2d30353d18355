use Rattle.std.proofs.Common.{◌≡◌, ◌+◌, ◌++◌, drop, string_bytes}
use Rattle.mcs_source.specs.MapText.{line_rows}
use Rattle.mcs_model.specs.TextLines.{text_of}
use Rattle.mcs_asm.proofs.rows.push_lines.Given as goal

abbrev pub invariant-loop-i : goal.invariant-loop-i
invariant-loop-i l = string_bytes l.out ++ text_of (line_rows (l.i + 1) (drop l.i l.spans)) ≡ string_bytes l.fn.out ++ text_of (line_rows 1 l.spans)
