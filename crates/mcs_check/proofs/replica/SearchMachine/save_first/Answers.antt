use Rattle.std.proofs.Common.{◌∙◌, subst, arith, get_or-set_other}
use Rattle.std.proofs.lemmas.List.{length-set}
use Rattle.mcs_check.specs.Memory.{HasFirstBytes}
use Rattle.mcs_check.proofs.Saving.{has_first_bytes-after_next_byte_written}
use Rattle.mcs_check.proofs.replica.SearchMachine.save_first.Goals as goal

pub loop-i-preserved : goal.loop-i-preserved
loop-i-preserved c = record {
  len = length-set _ _ _ ∙ c.loop-i.invariant.len;
  done = has_first_bytes-after_next_byte_written c.args.self.now c.args.layout.now c.loop-i.vector c.loop-i.i c.byte.result _ (omega arith) (c.loop-i.invariant.len ∙ c.requires.length) c.byte.ensures c.loop-i.invariant.done;
  others = λ k from. get_or-set_other c.loop-i.vector c.loop-i.i k c.byte.result 0 (omega arith) ∙ c.loop-i.invariant.others k from;
}

pub returns-clause-first : goal.returns-clause-first
returns-clause-first c = subst (HasFirstBytes c.args.self.now c.args.layout.now c.loop-i.vector) (omega arith) c.loop-i.invariant.done
