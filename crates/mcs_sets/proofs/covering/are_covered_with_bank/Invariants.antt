use Rattle.std.proofs.Common.{◌≡◌, ◌<◌, ◌+◌, ◌*◌, ℕ}
use Rattle.mcs_sets.specs.Covering.{AllowsChoice, IsChoiceCovered, choice_at}
use Rattle.mcs_sets.proofs.covering.are_covered_with_bank.Given as goal

abbrev pub invariant-loop-byte : goal.invariant-loop-byte
invariant-loop-byte l = record {
  covered : (first second : ℕ) → second < 16 → first * 16 + second < l.byte → AllowsChoice l.entry l.op (choice_at l.flags l.bank first second) →
      IsChoiceCovered l.initial.rig.rom l.initial.rig.board l.entries l.entry l.op (choice_at l.flags l.bank first second);
  rom : l.rig.rom ≡ l.initial.rig.rom;
  board : l.rig.board ≡ l.initial.rig.board;
}
