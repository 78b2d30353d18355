use Rattle.mcs_asm.proofs.ValueLists.{values_after_next_operand, no_values_if_operand_has_no_value, values_complete_after_last_operand}
use Rattle.mcs_asm.proofs.bytes.values.Goals as goal

pub returns-in_default : goal.returns-in_default
returns-in_default c = no_values_if_operand_has_no_value c.args.names.now.names c.args.operands.now c.loop-operand.operand-index _ c.loop-operand.value_list.items _ c.loop-operand-test.true c.in_default.ensures c.loop-operand.invariant

pub loop-operand-preserved : goal.loop-operand-preserved
loop-operand-preserved c = rw (c.in_ok-push.ensures.items) (values_after_next_operand c.args.names.now.names c.args.operands.now c.loop-operand.operand-index _ c.loop-operand.value_list.items c.in-Some.value _ c.loop-operand-test.true c.in-Some.ensures c.loop-operand.invariant)

pub returns : goal.returns
returns c = values_complete_after_last_operand c.args.names.now.names c.args.operands.now c.loop-operand.operand-index c.loop-operand.value_list.items _ c.loop-operand-test.false c.loop-operand.invariant
