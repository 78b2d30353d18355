use Rattle.std.proofs.Common.{◌≡◌, ◌<◌, ℕ}
use Rattle.mcs_sets.specs.Covering.{AllowsChoice, IsChoiceCovered, choice_at}
use Rattle.mcs_sets.proofs.covering.are_all_choices_covered.Given as goal

abbrev pub invariant-loop-flags : goal.invariant-loop-flags
invariant-loop-flags l = record {
  covered : (flags bank first second : ℕ) → flags < l.flags → bank < 16 → first < 16 → second < 16 → AllowsChoice l.entry l.op (choice_at flags bank first second) →
      IsChoiceCovered l.initial.rig.rom l.initial.rig.board l.entries l.entry l.op (choice_at flags bank first second);
  rom : l.rig.rom ≡ l.initial.rig.rom;
  board : l.rig.board ≡ l.initial.rig.board;
}
