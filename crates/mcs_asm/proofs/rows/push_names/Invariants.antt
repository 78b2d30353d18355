use Rattle.std.proofs.Common.{◌≡◌, ◌++◌, drop, map}
use Rattle.mcs_source.specs.MapText.{name_row}
use Rattle.mcs_model.specs.TextLines.{text_of}
use Rattle.mcs_asm.proofs.rows.push_names.Given as goal

abbrev pub invariant-loop-i : goal.invariant-loop-i
invariant-loop-i l = l.out.items ++ text_of (map name_row (map (λ e. (e.0.now, e.1)) (drop l.i l.names))) ≡ l.fn.out.items ++ text_of (map name_row (map (λ e. (e.0.now, e.1)) l.names))
