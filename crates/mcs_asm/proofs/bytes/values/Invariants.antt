use Rattle.std.proofs.Common.{◌≡◌, map, drop}
use Rattle.mcs_source.specs.Assembly.{values_in}
use Rattle.mcs_asm.specs.View.{operand_view}
use Rattle.mcs_asm.proofs.ValueLists.{prepend_all}
use Rattle.mcs_asm.proofs.bytes.values.Given as goal

abbrev pub invariant-loop-operand : goal.invariant-loop-operand
invariant-loop-operand l = prepend_all l.value_list.items (values_in l.names.names (map operand_view (drop l.operand-index l.operands))) ≡ values_in l.names.names (map operand_view l.operands)
