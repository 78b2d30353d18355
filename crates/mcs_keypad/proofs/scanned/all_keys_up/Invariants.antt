use Rattle.std.proofs.Common.{◌≡◌, replicate}
use Rattle.mcs_keypad.proofs.scanned.all_keys_up.Given as goal

abbrev pub invariant-loop : goal.invariant-loop
invariant-loop l = l.down.items ≡ replicate l.counter 0
