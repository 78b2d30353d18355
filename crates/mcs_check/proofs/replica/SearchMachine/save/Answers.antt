use Rattle.std.proofs.Common.{◌∙◌, arith}
use Rattle.mcs_check.proofs.Memory.{vector_of_machine-if_first_bytes}
use Rattle.mcs_check.proofs.replica.SearchMachine.save.Goals as goal

pub returns : goal.returns
returns c = vector_of_machine-if_first_bytes c.args.self.now c.args.layout.now c.save_first.new.vector _ (c.save_first.ensures.length ∙ c.requires) (omega arith) c.save_first.ensures.first
