use Rattle.std.proofs.Common.{◌∙◌, sym, arith}
use Rattle.mcs_sets.proofs.certifying.covers.Goals as goal

pub returns : goal.returns
returns c = λ h.
    let at_entry = c.is_at_entry.ensures c.if-not-is_at_entry.false in
    let no_calls = at_entry.calls in
    record {
      at = at_entry.at;
      calls = sym no_calls;
      ret = λ k few inside. absurd (omega arith);
      acc = sym c.allows_acc.ensures ∙ c.if-not-allows_acc.false;
      locations = c.allows_all_values.ensures h;
      carry = c.machine_is_well_formed.ensures.carry;
      registers = c.machine_is_well_formed.ensures.registers;
      banks = c.machine_is_well_formed.ensures.banks;
    }
