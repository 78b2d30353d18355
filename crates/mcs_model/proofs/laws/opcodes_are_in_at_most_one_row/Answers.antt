-- Both clauses are proved by computation, opcode by opcode.
use Rattle.std.proofs.Common.{refl}
use Rattle.mcs_model.specs.Table.{row_of}
use Rattle.mcs_model.proofs.laws.opcodes_are_in_at_most_one_row.Goals as goal

pub returns-clause-outside : goal.returns-clause-outside
unfolding row_of
returns-clause-outside c = refl

pub returns-clause-at_most_one : goal.returns-clause-at_most_one
returns-clause-at_most_one c = refl
