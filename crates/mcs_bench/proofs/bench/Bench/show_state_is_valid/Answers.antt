use Rattle.std.proofs.Common.{subst}
use Rattle.mcs_model.specs.declared.regs.Regs.{Regs}
use Rattle.mcs_model.specs.Validity.{IsValid, IsValidRegs}
use Rattle.std.proofs.Common.{arith}
use Rattle.mcs_bench.proofs.bench.Bench.show_state_is_valid.Goals as goal

pub returns : goal.returns
returns c = subst IsValid c.self.view_is (record {
  processor = subst (λ (r : Regs). IsValidRegs r) c.regs.ensures.same c.show_registers_are_valid.ensures;
  bus = c.show_state_is_valid.ensures;
  breakpoints = c.show_state_is_valid-2.ensures;
  watches = c.show_state_is_valid-3.ensures;
  seq = omega arith;
})
