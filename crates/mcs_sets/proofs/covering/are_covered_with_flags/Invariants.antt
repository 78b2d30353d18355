use Rattle.std.proofs.Common.{◌≡◌, ◌<◌, ℕ}
use Rattle.mcs_sets.specs.Covering.{AllowsChoice, IsChoiceCovered, choice_at}
use Rattle.mcs_sets.proofs.covering.are_covered_with_flags.Given as goal

abbrev pub invariant-loop-bank : goal.invariant-loop-bank
invariant-loop-bank l = record {
  covered : (bank first second : ℕ) → bank < l.bank → first < 16 → second < 16 → AllowsChoice l.entry l.op (choice_at l.flags bank first second) →
      IsChoiceCovered l.initial.rig.rom l.initial.rig.board l.entries l.entry l.op (choice_at l.flags bank first second);
  rom : l.rig.rom ≡ l.initial.rig.rom;
  board : l.rig.board ≡ l.initial.rig.board;
}
