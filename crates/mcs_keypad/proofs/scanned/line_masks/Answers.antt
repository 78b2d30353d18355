use Rattle.std.proofs.Common.{rules}
use Rattle.mcs_keypad.proofs.scanned.line_masks.Goals as goal

pub loop-i-preserved : goal.loop-i-preserved
loop-i-preserved c = search rules
