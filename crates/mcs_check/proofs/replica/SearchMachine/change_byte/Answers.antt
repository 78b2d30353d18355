use Rattle.std.proofs.Common.{◌∙◌, sym}
use Rattle.std.proofs.lemmas.Bool.{both_ways, not-true}
use Rattle.mcs_check.specs.Memory.{is_memory_byte}
use Rattle.mcs_check.proofs.Keeping.{keeps-refl}
use Rattle.mcs_check.proofs.Memory.{memory-refl}
use Rattle.mcs_check.proofs.replica.SearchMachine.change_byte.Goals as goal

pub returns-then-last-n-clause-keeps : goal.returns-then-last-n-clause-keeps
returns-then-last-n-clause-keeps c = keeps-refl c.args.self.now.1

pub returns-then-last-n-clause-memory : goal.returns-then-last-n-clause-memory
returns-then-last-n-clause-memory c = λ _. memory-refl c.args.self.now.1

pub returns-clause-memory : goal.returns-clause-memory
returns-clause-memory c = λ outside. c.set_byte.ensures.memory (sym c.is_memory.ensures ∙ not-true c.is_memory.result outside)

pub returns-clause-equal : goal.returns-clause-equal
returns-clause-equal c = λ outside inside. absurd (both_ways (is_memory_byte c.args.byte) (sym c.is_memory.ensures ∙ not-true c.is_memory.result outside) inside)
