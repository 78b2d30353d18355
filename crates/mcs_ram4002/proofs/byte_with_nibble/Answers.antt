use Rattle.std.proofs.Common.{rules}
use Rattle.mcs_ram4002.proofs.byte_with_nibble.Goals as goal

pub returns-then-at-eq0-clause-set : goal.returns-then-at-eq0-clause-set
returns-then-at-eq0-clause-set c = search rules

pub returns-then-at-eq0-clause-other_half : goal.returns-then-at-eq0-clause-other_half
returns-then-at-eq0-clause-other_half c = search rules
