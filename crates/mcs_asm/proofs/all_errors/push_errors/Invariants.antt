use Rattle.std.proofs.Common.{◌≡◌, ◌++◌, drop, map, string_bytes}
use Rattle.mcs_model.specs.TextLines.{text_of}
use Rattle.mcs_asm.specs.Errors.{error_row}
use Rattle.mcs_asm.proofs.all_errors.push_errors.Given as goal

abbrev pub invariant-loop-i : goal.invariant-loop-i
invariant-loop-i l = string_bytes l.out ++ text_of (map error_row (drop l.i l.errors)) ≡ string_bytes l.fn.out ++ text_of (map error_row l.errors)
