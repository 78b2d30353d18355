use Rattle.std.proofs.Common.{rules}
use Rattle.mcs_asm.proofs.bytes.low_byte_on_page.Goals as goal

pub returns-then-get-at : goal.returns-then-get-at
returns-then-get-at c = search rules

pub returns-else-get-at : goal.returns-else-get-at
returns-else-get-at c = search rules
