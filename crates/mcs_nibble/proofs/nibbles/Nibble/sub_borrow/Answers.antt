use Rattle.std.proofs.Common.{rules}
use Rattle.mcs_nibble.proofs.nibbles.Nibble.sub_borrow.Goals as goal

pub returns-clause-sum : goal.returns-clause-sum
returns-clause-sum c = search rules

pub returns-clause-carry : goal.returns-clause-carry
returns-clause-carry c = search rules
