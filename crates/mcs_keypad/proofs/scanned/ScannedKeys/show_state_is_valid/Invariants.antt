use Rattle.std.proofs.Common.{ℕ, ◌<◌, get_or}
use Rattle.mcs_keypad.proofs.scanned.ScannedKeys.show_state_is_valid.Given as goal

abbrev pub invariant-loop-i : goal.invariant-loop-i
invariant-loop-i l = (k : ℕ) → k < l.i → get_or l.self.down k 0 < 2
