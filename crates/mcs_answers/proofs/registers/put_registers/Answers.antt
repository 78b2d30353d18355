use Rattle.std.proofs.Common.{◌++◌, codes, ap, ◌∙◌}
use Rattle.mcs_model.specs.declared.regs.Regs.{Regs}
use Rattle.mcs_model.specs.QueryText.{digit_text, registers_text}
use Rattle.mcs_answers.proofs.RegisterTexts.{registers_text_from_parts}
use Rattle.mcs_answers.proofs.registers.put_registers.Goals as goal

pub returns-clause-text : goal.returns-clause-text
returns-clause-text c =
    let regs = c.regs-regs.result in
    let test = c.args.bench.now.bus.test in
    registers_text_from_parts c.args.answer.now.items regs test _ _ _ _ _ _ _ _
    (c.put_digit.ensures.text ∙ ap (λ v. c.args.answer.now.items ++ codes "acc " ++ digit_text v) c.get.ensures.value)
    (c.put_digit-2.ensures.text ∙ ap (λ v. c.put_digit.new.answer.items ++ codes " cy " ++ digit_text v) c.get-2.ensures.value)
    c.put_address.ensures.text
    c.put_digit-3.ensures.text
    c.put_digit-4.ensures.text
    (c.put_digit-5.ensures.text ∙ ap (λ v. c.put_digit-4.new.answer.items ++ codes " test " ++ digit_text v) (c.get-3.ensures.value ∙ c.test.ensures))
    c.put.ensures.text
    c.put_digits.ensures.text
    ∙ ap (λ (r : Regs). c.args.answer.now.items ++ registers_text r test) c.regs-regs.ensures.same
