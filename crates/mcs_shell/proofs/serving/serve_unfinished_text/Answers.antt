use Rattle.mcs_shell.proofs.MayAnswer.{may_write_answer_to_input}
use Rattle.std.proofs.Common.{rules, refl}
use Rattle.mcs_shell.specs.declared.texts.TextFault.TheVariants.{NoEnd}
use Rattle.mcs_shell.specs.Inputs.{BadText}
use Rattle.mcs_shell.proofs.AnsweredInputs.{answered_from_state, serves_one_input}
use Rattle.mcs_shell.proofs.serving.serve_unfinished_text.Goals as goal

pub returns-clause-served : goal.returns-clause-served
returns-clause-served g c = serves_one_input _ _ _ _ _ _ (answered_from_state _ (BadText NoEnd) _ refl (search rules)) c.deliver.ensures.wrote

pub deliver-requires : goal.deliver-requires
deliver-requires g c = may_write_answer_to_input _ c.args.session.now _ _ _ _ (answered_from_state _ (BadText NoEnd) _ refl (search rules)) c.bench-bench.ensures.represents c.bench-bench.ensures.represents
