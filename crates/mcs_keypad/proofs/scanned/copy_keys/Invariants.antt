use Rattle.std.proofs.Common.{◌≡◌, take}
use Rattle.mcs_keypad.proofs.scanned.copy_keys.Given as goal

abbrev pub invariant-loop-key : goal.invariant-loop-key
invariant-loop-key l = l.copy.items ≡ take l.key-index l.key-items
