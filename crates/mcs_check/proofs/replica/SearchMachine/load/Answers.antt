use Rattle.std.proofs.Common.{sym, subst}
use Rattle.mcs_check.specs.StateVectors.{KeepsBoardAndInputs}
use Rattle.mcs_check.proofs.Keeping.{keeps-refl, keeps-trans}
use Rattle.mcs_check.proofs.replica.SearchMachine.load.Goals as goal

pub loop-i-init : goal.loop-i-init
loop-i-init c = keeps-refl c.args.self.now.1

pub loop-i-preserved : goal.loop-i-preserved
loop-i-preserved c = keeps-trans c.args.self.now.1 c.loop-i.self.1 c.set_byte.new.self.1 c.loop-i.invariant c.set_byte.ensures.keeps

pub returns-clause-keeps : goal.returns-clause-keeps
returns-clause-keeps c = subst (KeepsBoardAndInputs c.args.self.now.1) (sym c.set_registers.ensures) c.loop-i.invariant
