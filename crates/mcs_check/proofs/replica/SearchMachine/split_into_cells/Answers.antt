use Rattle.std.proofs.Common.{ap, ◌∙◌}
use Rattle.mcs_check.specs.declared.cells.Cell.{Cell}
use Rattle.mcs_check.specs.Memory.{is_memory_list}
use Rattle.mcs_check.proofs.Keeping.{keeps-trans}
use Rattle.mcs_check.proofs.Memory.{memory-trans}
use Rattle.mcs_check.proofs.replica.SearchMachine.split_into_cells.Goals as goal

pub returns-clause-keeps : goal.returns-clause-keeps
returns-clause-keeps c = keeps-trans c.args.self.now.1 c.set.new.self.1 c.set-2.new.self.1 c.set.ensures.keeps c.set-2.ensures.keeps

pub returns-clause-memory : goal.returns-clause-memory
returns-clause-memory c = λ outside. memory-trans c.args.self.now.1 c.set.new.self.1 c.set-2.new.self.1
    (c.set.ensures.memory (ap (λ (x : Cell). is_memory_list x.list) c.first_cell_of.ensures ∙ outside))
    (c.set-2.ensures.memory (ap (λ (x : Cell). is_memory_list x.list) c.second_cell_of.ensures ∙ outside))
