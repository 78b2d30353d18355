use Rattle.std.proofs.Common.{◌≡◌, ◌++◌, string_bytes}
use Rattle.mcs_wiring.specs.Flaws.{roms_text}
use Rattle.mcs_wiring.proofs.writing.push_roms.Given as goal

abbrev pub invariant-loop-chip : goal.invariant-loop-chip
invariant-loop-chip l = string_bytes l.out ≡ string_bytes l.initial.out ++ roms_text l.board l.chip
