use Rattle.std.proofs.Common.{slice_index_or}
use Rattle.mcs_model.specs.declared.board.Line.TheVariants.{Rom}
use Rattle.mcs_model.specs.Levels.{is_rom_line}
use Rattle.mcs_keypad.specs.Keys.{IsColumnMask}
use Rattle.mcs_keypad.proofs.scanned.line_mask.Given as goal

abbrev pub invariant-loop-j : goal.invariant-loop-j
invariant-loop-j l = IsColumnMask l.byte l.j (λ i. is_rom_line l.chip l.k (slice_index_or l.columns i (Rom 0 0)))
