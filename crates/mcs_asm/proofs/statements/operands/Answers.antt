use Rattle.std.proofs.Common.{◌≡◌, ◌++◌, ◌∷◌, [], Some, None, map}
use Rattle.std.proofs.lemmas.List.{map_push}
use Rattle.mcs_source.specs.Lines.{operands_of}
use Rattle.mcs_asm.specs.ListItems.{list_item}
use Rattle.mcs_asm.specs.View.{operand_view}
use Rattle.mcs_asm.proofs.OperandLists.{no_operands_if_no_item, operands_complete_after_last_item, operands_after_item_before_comma}
use Rattle.mcs_asm.proofs.statements.operands.Goals as goal

pub returns-in_default : goal.returns-in_default
returns-in_default c = no_operands_if_no_item (map operand_view c.loop-value.operand_list.items) c.loop-value.tokens (operands_of c.args.tokens.now) c.in_default.ensures c.loop-value.invariant

pub returns-then-not-more : goal.returns-then-not-more
returns-then-not-more c =
    let v = c.in-Some.value in
    let e : map operand_view c.push.new.self.items ≡ map operand_view c.loop-value.operand_list.items ++ operand_view v ∷ [] = rw c.in_ok-push.ensures.items (map_push _ c.loop-value.operand_list.items v) in
    let item : Some (operand_view v, None) ≡ list_item c.loop-value.tokens = rw (c.if-not-more.true) at c.in-Some.ensures in
    rw e (operands_complete_after_last_item (map operand_view c.loop-value.operand_list.items) (operand_view v) c.loop-value.tokens (operands_of c.args.tokens.now) item c.loop-value.invariant)

pub loop-value-preserved : goal.loop-value-preserved
loop-value-preserved c =
    let v = c.in-Some.value in
    let e : map operand_view c.push.new.self.items ≡ map operand_view c.loop-value.operand_list.items ++ operand_view v ∷ [] = rw c.in_ok-push.ensures.items (map_push _ c.loop-value.operand_list.items v) in
    let item : Some (operand_view v, Some c.list_item.new.tokens) ≡ list_item c.loop-value.tokens = rw (c.if-not-more.false) at c.in-Some.ensures in
    rw e (operands_after_item_before_comma (map operand_view c.loop-value.operand_list.items) (operand_view v) c.list_item.new.tokens c.loop-value.tokens (operands_of c.args.tokens.now) item c.loop-value.invariant)
