use Rattle.std.proofs.Common.{◌∙◌, subst, arith}
use Rattle.mcs_check.specs.Memory.{HasFirstBytes}
use Rattle.mcs_check.proofs.Saving.{has_first_bytes-if_next_byte_correct}
use Rattle.mcs_check.proofs.replica.SearchMachine.matches_first.Goals as goal

pub loop-i-preserved : goal.loop-i-preserved
loop-i-preserved c = has_first_bytes-if_next_byte_correct c.args.self.now c.args.layout.now c.args.vector.now c.loop-i.i _ (omega arith) (c.if-vector-i.false ∙ c.byte.ensures) c.loop-i.invariant

pub returns : goal.returns
returns c = λ _. subst (HasFirstBytes c.args.self.now c.args.layout.now c.args.vector.now) (omega arith) c.loop-i.invariant
